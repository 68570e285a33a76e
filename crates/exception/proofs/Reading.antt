-- What each register reads after an exception, by the manual's fields: nothing is lost under the registers' masks.
use Rattle.std.proofs.Common.{◌≡◌, ℕ, ◌^◌, ◌<◌, Bool, true, false, cond, [], ◌∷◌, length, refl, ap, ◌∙◌, arith}
use Rattle.bits.proofs.Choices.{either}
use Rattle.bits.specs.Field.{with_field_of, bit}
use Rattle.bits.specs.Mask.{under}
use Rattle.bits.proofs.MaskLaws.{under_ones}
use Rattle.bits.proofs.UnderLaws.{under_with}
use Rattle.cop0.specs.declared.registers.Cop0.{Cop0}
use Rattle.cop0.specs.Registers.{Context, BadVAddr, EntryHi, Status, Cause, EPC, XContext, among, unused, arch_mask}
use Rattle.cop0.specs.File.{read_at, read_of, set_hardware_of}
use Rattle.cop0.specs.Only.{Only}
use Rattle.cop0.proofs.Hardware.{only_none, set_file, read_other, read_past, read_back, read_kept}
use Rattle.exception.specs.declared.kinds.Exception.{Exception}
use Rattle.exception.specs.Kinds.{writes_bad_vaddr_of}
use Rattle.exception.specs.Epilogue.{cause_of, epc_of, in_handler, context_of, xcontext_of, entry_hi_of, recorded, addressed, handling}
use Rattle.exception.specs.Taking.{taken_of}
use Rattle.exception.proofs.Untouched.{recorded_only, addressed_only, handling_only}

-- the values of the registers lie under their masks
module _ (c : Cop0) where
  exl_kept : under (arch_mask Status) (with_field_of (read_of c Status) 1 1 1) ≡ with_field_of (read_of c Status) 1 1 1
  unfolding read_at unused among arch_mask
  exl_kept =
      under_with (arch_mask Status) (read_of c Status) 1 1 1 (omega arith) (omega arith) refl
      (read_kept Status (λ f. refl) (omega arith) c)

  cause_kept : (e : Exception) → under (arch_mask Cause) (cause_of (read_of c Cause) e) ≡ cause_of (read_of c Cause) e
  unfolding read_at unused among arch_mask
  cause_kept e =
      under_with (arch_mask Cause) _ 29 28 _ (omega arith) (omega arith) refl
      (under_with (arch_mask Cause) (read_of c Cause) 6 2 _ (omega arith) (omega arith) refl
      (read_kept Cause (λ f. refl) (omega arith) c))

  bd_kept : (e : Exception) (b : ℕ)
      → under (arch_mask Cause) (with_field_of (cause_of (read_of c Cause) e) 31 31 b) ≡ with_field_of (cause_of (read_of c Cause) e) 31 31 b
  unfolding arch_mask
  bd_kept e b = under_with (arch_mask Cause) (cause_of (read_of c Cause) e) 31 31 b (omega arith) (omega arith) refl (cause_kept e)

  context_kept : (v : ℕ) → under (arch_mask Context) (context_of (read_of c Context) v) ≡ context_of (read_of c Context) v
  unfolding read_at unused among arch_mask
  context_kept v =
      under_with (arch_mask Context) (read_of c Context) 22 4 _ (omega arith) (omega arith) refl
      (read_kept Context (λ f. refl) (omega arith) c)

  xcontext_kept : (v : ℕ) → under (arch_mask XContext) (xcontext_of (read_of c XContext) v) ≡ xcontext_of (read_of c XContext) v
  unfolding read_at unused among arch_mask
  xcontext_kept v =
      under_with (arch_mask XContext) _ 32 31 _ (omega arith) (omega arith) refl
      (under_with (arch_mask XContext) (read_of c XContext) 30 4 _ (omega arith) (omega arith) refl
      (read_kept XContext (λ f. refl) (omega arith) c))

  entry_hi_kept : (v : ℕ) → under (arch_mask EntryHi) (entry_hi_of (read_of c EntryHi) v) ≡ entry_hi_of (read_of c EntryHi) v
  unfolding read_at unused among arch_mask
  entry_hi_kept v =
      under_with (arch_mask EntryHi) _ 63 62 _ (omega arith) (omega arith) refl
      (under_with (arch_mask EntryHi) (read_of c EntryHi) 39 13 _ (omega arith) (omega arith) refl
      (read_kept EntryHi (λ f. refl) (omega arith) c))

-- r: the registers c, after exception e
module _ (c : Cop0) (file : length c.regs ≡ 32) (e : Exception) (pc : ℕ) (slot : Bool) (bad : ℕ) where
  abbrev pub r : Cop0
  r = taken_of c e pc slot bad

  -- on the way: the cause is recorded, and the faulting address
  abbrev q : Cop0
  q = recorded c e pc slot

  abbrev a : Cop0
  a = cond (writes_bad_vaddr_of e) (addressed q bad) q

  q_only : Only (Cause ∷ EPC ∷ []) c q
  unfolding among
  q_only = recorded_only (only_none (Cause ∷ EPC ∷ []) c) refl refl e pc slot

  q_file : length q.regs ≡ 32
  q_file = q_only.file ∙ file

  a_only : Only (BadVAddr ∷ Context ∷ XContext ∷ EntryHi ∷ []) q a
  unfolding among
  a_only =
      let o = only_none (BadVAddr ∷ Context ∷ XContext ∷ EntryHi ∷ []) q in
      either (Only (BadVAddr ∷ Context ∷ XContext ∷ EntryHi ∷ []) q) (writes_bad_vaddr_of e) (addressed_only o refl refl refl refl bad) o

  r_only : Only (Status ∷ []) a r
  unfolding taken_of among
  r_only = handling_only (only_none (Status ∷ []) a) refl

  -- EXL is set, and nothing else of Status
  pub status_reads : read_of r Status ≡ with_field_of (read_of c Status) 1 1 1
  unfolding taken_of handling read_at unused among
  status_reads =
      read_back Status (λ f. refl) (omega arith) a (a_only.file ∙ q_file) _ (exl_kept a)
      ∙ ap (λ (s : ℕ). with_field_of s 1 1 1)
      (read_other Status (λ f. refl) a_only refl ∙ read_other Status (λ f. refl) q_only refl)

  from_q : read_of r Cause ≡ read_of q Cause
  unfolding read_at unused among
  from_q = read_other Cause (λ f. refl) r_only refl ∙ read_other Cause (λ f. refl) a_only refl

  epc_from_q : read_of r EPC ≡ read_of q EPC
  unfolding read_at unused among
  epc_from_q = read_other EPC (λ f. refl) r_only refl ∙ read_other EPC (λ f. refl) a_only refl

  -- under EXL the cause is replaced, and BD and EPC stand
  module _ (nested : in_handler c ≡ true) where
    pub nested_cause : read_of r Cause ≡ cause_of (read_of c Cause) e
    unfolding recorded read_at unused among
    nested_cause = from_q ∙ rw nested (read_back Cause (λ f. refl) (omega arith) c file _ (cause_kept c e))

    pub nested_epc : read_of r EPC ≡ read_of c EPC
    unfolding recorded read_at unused among
    nested_epc = epc_from_q ∙ rw nested (read_past EPC (λ f. refl) Cause _ c refl refl)

  -- else BD says whether it was a delay slot, and EPC where to return to
  module _ (first : in_handler c ≡ false) where
    pub first_cause : read_of r Cause ≡ with_field_of (cause_of (read_of c Cause) e) 31 31 (bit slot)
    unfolding recorded read_at unused among
    first_cause =
        from_q
        ∙ rw first
        (read_back Cause (λ f. refl) (omega arith) (set_hardware_of c EPC (epc_of pc slot)) (set_file c EPC _ 32 file) _
        (bd_kept c e (bit slot)))

    pub first_epc : pc < 2 ^ 64 → read_of r EPC ≡ epc_of pc slot
    unfolding recorded read_at unused among arch_mask
    first_epc h =
        let word : epc_of pc slot < 2 ^ 64 = either (λ (x : ℕ). x < 2 ^ 64) slot (omega arith) h in
        epc_from_q
        ∙ rw first
        (read_past EPC (λ f. refl) Cause _ (set_hardware_of c EPC (epc_of pc slot)) refl refl
        ∙ read_back EPC (λ f. refl) (omega arith) c file (epc_of pc slot) (under_ones 64 (epc_of pc slot) word))

  -- the faulting address, where there is one
  module _ (faulting : writes_bad_vaddr_of e ≡ true) where
    abbrev a₁ : Cop0
    a₁ = set_hardware_of q BadVAddr bad

    abbrev a₂ : Cop0
    a₂ = set_hardware_of a₁ Context (context_of (read_of q Context) bad)

    abbrev a₃ : Cop0
    a₃ = set_hardware_of a₂ XContext (xcontext_of (read_of q XContext) bad)

    file₁ : length a₁.regs ≡ 32
    file₁ = set_file q BadVAddr bad 32 q_file

    file₂ : length a₂.regs ≡ 32
    file₂ = set_file a₁ Context _ 32 file₁

    file₃ : length a₃.regs ≡ 32
    file₃ = set_file a₂ XContext _ 32 file₂

    pub bad_vaddr_reads : bad < 2 ^ 64 → read_of r BadVAddr ≡ bad
    unfolding addressed read_at unused among arch_mask
    bad_vaddr_reads h =
        read_other BadVAddr (λ f. refl) r_only refl
        ∙ rw faulting
        (read_past BadVAddr (λ f. refl) EntryHi _ a₃ refl refl
        ∙ read_past BadVAddr (λ f. refl) XContext _ a₂ refl refl
        ∙ read_past BadVAddr (λ f. refl) Context _ a₁ refl refl
        ∙ read_back BadVAddr (λ f. refl) (omega arith) q q_file bad (under_ones 64 bad h))

    pub context_reads : read_of r Context ≡ context_of (read_of c Context) bad
    unfolding addressed read_at unused among
    context_reads =
        read_other Context (λ f. refl) r_only refl
        ∙ rw faulting
        (read_past Context (λ f. refl) EntryHi _ a₃ refl refl
        ∙ read_past Context (λ f. refl) XContext _ a₂ refl refl
        ∙ read_back Context (λ f. refl) (omega arith) a₁ file₁ _ (context_kept q bad))
        ∙ ap (λ (x : ℕ). context_of x bad) (read_other Context (λ f. refl) q_only refl)

    pub xcontext_reads : read_of r XContext ≡ xcontext_of (read_of c XContext) bad
    unfolding addressed read_at unused among
    xcontext_reads =
        read_other XContext (λ f. refl) r_only refl
        ∙ rw faulting
        (read_past XContext (λ f. refl) EntryHi _ a₃ refl refl
        ∙ read_back XContext (λ f. refl) (omega arith) a₂ file₂ _ (xcontext_kept q bad))
        ∙ ap (λ (x : ℕ). xcontext_of x bad) (read_other XContext (λ f. refl) q_only refl)

    pub entry_hi_reads : read_of r EntryHi ≡ entry_hi_of (read_of c EntryHi) bad
    unfolding addressed read_at unused among
    entry_hi_reads =
        read_other EntryHi (λ f. refl) r_only refl
        ∙ rw faulting (read_back EntryHi (λ f. refl) (omega arith) a₃ file₃ _ (entry_hi_kept q bad))
        ∙ ap (λ (x : ℕ). entry_hi_of x bad) (read_other EntryHi (λ f. refl) q_only refl)
