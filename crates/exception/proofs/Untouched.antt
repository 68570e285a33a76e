-- What exceptions leave alone: none touches Count, Compare or the clock.
use Rattle.std.proofs.Common.{◌≡◌, ℕ, Bool, true, List, [], ◌∷◌, refl}
use Rattle.bits.proofs.Choices.{either}
use Rattle.cop0.specs.declared.registers.Cop0.{Cop0}
use Rattle.cop0.specs.Registers.{Context, BadVAddr, EntryHi, Status, Cause, EPC, XContext, ErrorEPC, among}
use Rattle.cop0.specs.Clock.{count_of, compare_of}
use Rattle.cop0.specs.Machine.{Kept}
use Rattle.cop0.specs.Only.{Only}
use Rattle.cop0.proofs.Hardware.{only_none, only_set, only_count, only_compare, only_kept}
use Rattle.exception.specs.declared.kinds.Exception.{Exception}
use Rattle.exception.specs.declared.epilogue.Dispatched.{Dispatched}
use Rattle.exception.specs.declared.returning.Returned.{Returned}
use Rattle.exception.specs.Vectors.{is_reset}
use Rattle.exception.specs.Kinds.{writes_bad_vaddr_of, vector_kind_of}
use Rattle.exception.specs.Epilogue.{in_handler, recorded, addressed, handling}
use Rattle.exception.specs.Taking.{nmi_of, taken_of, dispatch_of}
use Rattle.exception.specs.Returning.{in_error, eret_of}

-- the cause and where to return to
pub recorded_only : {ns : List ℕ} {c d : Cop0} → Only ns c d → among ns Cause ≡ true → among ns EPC ≡ true
    → (e : Exception) (pc : ℕ) (slot : Bool) → Only ns c (recorded d e pc slot)
unfolding recorded
recorded_only {ns} {c} {d} o h₁ h₂ e pc slot =
    either (Only ns c) (in_handler d) (only_set o Cause _ h₁) (only_set (only_set o EPC _ h₂) Cause _ h₁)

-- the faulting address
pub addressed_only : {ns : List ℕ} {c d : Cop0} → Only ns c d
    → among ns BadVAddr ≡ true → among ns Context ≡ true → among ns XContext ≡ true → among ns EntryHi ≡ true
    → (v : ℕ) → Only ns c (addressed d v)
unfolding addressed
addressed_only o h₁ h₂ h₃ h₄ v =
    only_set (only_set (only_set (only_set o BadVAddr v h₁) Context _ h₂) XContext _ h₃) EntryHi _ h₄

-- EXL
pub handling_only : {ns : List ℕ} {c d : Cop0} → Only ns c d → among ns Status ≡ true → Only ns c (handling d)
unfolding handling
handling_only o h = only_set o Status _ h

-- NMI touches Status and ErrorEPC alone
pub nmi_only : (c : Cop0) (pc : ℕ) → Only (Status ∷ ErrorEPC ∷ []) c (nmi_of c pc).cop0
unfolding nmi_of among
nmi_only c pc = only_set (only_set (only_none (Status ∷ ErrorEPC ∷ []) c) ErrorEPC pc refl) Status _ refl

-- `eret` Status alone
pub eret_only : (c : Cop0) → Only (Status ∷ []) c (eret_of c).cop0
unfolding eret_of among
eret_only c =
    let o = only_none (Status ∷ []) c in
    either (λ (r : Returned). Only (Status ∷ []) c r.cop0) (in_error c)
    (only_set o Status _ refl)
    (only_set o Status _ refl)

-- all that exceptions touch
abbrev pub touched : List ℕ
touched = Status ∷ Cause ∷ EPC ∷ BadVAddr ∷ Context ∷ XContext ∷ EntryHi ∷ ErrorEPC ∷ []

pub dispatch_only : (c : Cop0) (e : Exception) (pc : ℕ) (slot : Bool) (bad : ℕ) → Only touched c (dispatch_of c e pc slot bad).cop0
unfolding dispatch_of nmi_of taken_of among
dispatch_only c e pc slot bad =
    let o = only_none touched c in
    let q = recorded_only o refl refl e pc slot in
    either (λ (r : Dispatched). Only touched c r.cop0) (is_reset (vector_kind_of e))
    (only_set (only_set o ErrorEPC pc refl) Status _ refl)
    (handling_only (either (Only touched c) (writes_bad_vaddr_of e) (addressed_only q refl refl refl refl bad) q) refl)

-- so that the clock runs on as if there had been none
module _ (c : Cop0) (e : Exception) (pc : ℕ) (slot : Bool) (bad : ℕ) where
  pub same_count : count_of (dispatch_of c e pc slot bad).cop0 ≡ count_of c
  same_count = only_count (dispatch_only c e pc slot bad)

  pub same_compare : compare_of (dispatch_of c e pc slot bad).cop0 ≡ compare_of c
  unfolding among
  same_compare = only_compare (dispatch_only c e pc slot bad) refl

  pub dispatch_kept : Kept c → Kept (dispatch_of c e pc slot bad).cop0
  dispatch_kept = only_kept (dispatch_only c e pc slot bad)

pub eret_kept : (c : Cop0) → Kept c → Kept (eret_of c).cop0
eret_kept c = only_kept (eret_only c)
