-- What the hardware's setting of a register keeps, an exception and the return from one keep.
use Rattle.std.proofs.Common.{ℕ, Bool}
use Rattle.bits.proofs.Choices.{either}
use Rattle.cop0.specs.declared.registers.Cop0.{Cop0}
use Rattle.cop0.specs.File.{set_hardware_of}
use Rattle.exception.specs.declared.kinds.Exception.{Exception}
use Rattle.exception.specs.declared.epilogue.Dispatched.{Dispatched}
use Rattle.exception.specs.declared.returning.Returned.{Returned}
use Rattle.exception.specs.Vectors.{is_reset}
use Rattle.exception.specs.Kinds.{writes_bad_vaddr_of, vector_kind_of}
use Rattle.exception.specs.Epilogue.{in_handler, recorded, addressed, handling}
use Rattle.exception.specs.Taking.{nmi_of, taken_of, dispatch_of}
use Rattle.exception.specs.Returning.{in_error, eret_of}

module _ (P : Cop0 → Type 0) (set : (c : Cop0) → P c → (n v : ℕ) → P (set_hardware_of c n v)) where
  pub recorded_by : (c : Cop0) → P c → (e : Exception) (pc : ℕ) (slot : Bool) → P (recorded c e pc slot)
  unfolding recorded
  recorded_by c p e pc slot = either P (in_handler c) (set _ p _ _) (set _ (set _ p _ _) _ _)

  pub addressed_by : (c : Cop0) → P c → (v : ℕ) → P (addressed c v)
  unfolding addressed
  addressed_by c p v = set _ (set _ (set _ (set _ p _ _) _ _) _ _) _ _

  pub dispatch_by : (c : Cop0) → P c → (e : Exception) (pc : ℕ) (slot : Bool) (bad : ℕ) → P (dispatch_of c e pc slot bad).cop0
  unfolding dispatch_of nmi_of taken_of handling
  dispatch_by c p e pc slot bad =
      let q = recorded_by c p e pc slot in
      either (λ (r : Dispatched). P r.cop0) (is_reset (vector_kind_of e))
      (set _ (set _ p _ _) _ _)
      (set _ (either P (writes_bad_vaddr_of e) (addressed_by _ q bad) q) _ _)

  pub eret_by : (c : Cop0) → P c → P (eret_of c).cop0
  unfolding eret_of
  eret_by c p = either (λ (r : Returned). P r.cop0) (in_error c) (set _ p _ _) (set _ p _ _)
