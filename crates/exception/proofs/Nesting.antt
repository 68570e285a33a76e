-- An exception inside a handler (EXL 1) leaves EPC and BD as they were and goes to offset 0x180 (6.3.7, 6.4.8).
use Rattle.std.proofs.Common.{◌≡◌, ℕ, ◌+◌, Bool, true, false, eqb, length, refl, ap, ◌∙◌, arith}
use Rattle.bits.specs.Field.{field_of}
use Rattle.bits.proofs.FieldLaws.{field_higher}
use Rattle.cop0.specs.declared.registers.Cop0.{Cop0}
use Rattle.cop0.specs.Registers.{Status, Cause, EPC}
use Rattle.cop0.specs.File.{read_of}
use Rattle.exception.specs.declared.kinds.Exception.{Exception}
use Rattle.exception.specs.declared.epilogue.Dispatched.{Dispatched}
use Rattle.exception.specs.declared.vectors.VectorKind.{VectorKind}
use Rattle.exception.specs.declared.vectors.VectorKind.TheVariants.{General, TlbRefill, XtlbRefill, Reset}
use Rattle.exception.specs.Vectors.{is_reset, base_of, vector_of}
use Rattle.exception.specs.Kinds.{vector_kind_of}
use Rattle.exception.specs.Epilogue.{in_handler}
use Rattle.exception.specs.Taking.{entered, taken_of, dispatch_of}
use Rattle.exception.proofs.Reading.{nested_cause, nested_epc}

-- any exception but NMI is taken by the general path
pub is_taken : (c : Cop0) (e : Exception) (pc : ℕ) (slot : Bool) (bad : ℕ) → is_reset (vector_kind_of e) ≡ false
    → dispatch_of c e pc slot bad ≡ entered (vector_of (read_of c Status) (vector_kind_of e)) (taken_of c e pc slot bad)
unfolding dispatch_of
is_taken c e pc slot bad proper = rw proper

-- under EXL every vector but Reset is the common one
common : (s : ℕ) (k : VectorKind) → is_reset k ≡ false → eqb (field_of s 1 1) 1 ≡ true → vector_of s k ≡ base_of s + 0x180
common s General proper exl = refl
common s TlbRefill proper exl = rw exl
common s XtlbRefill proper exl = rw exl
common s Reset proper exl = let z : ◌≡◌ {A = ℕ} 0 1 = cc in absurd (omega arith)

module _ (c : Cop0) (file : length c.regs ≡ 32) (e : Exception) (pc : ℕ) (slot : Bool) (bad : ℕ)
    (proper : is_reset (vector_kind_of e) ≡ false) (nested : in_handler c ≡ true) where
  abbrev pub d : Dispatched
  d = dispatch_of c e pc slot bad

  pub epc_stands : read_of d.cop0 EPC ≡ read_of c EPC
  epc_stands = rw (is_taken c e pc slot bad proper) (nested_epc c file e pc slot bad nested)

  pub bd_stands : field_of (read_of d.cop0 Cause) 31 31 ≡ field_of (read_of c Cause) 31 31
  bd_stands =
      rw (is_taken c e pc slot bad proper)
      (ap (λ (x : ℕ). field_of x 31 31) (nested_cause c file e pc slot bad nested)
      ∙ field_higher _ 29 28 _ (omega arith) (omega arith) 31 31 (omega arith)
      ∙ field_higher _ 6 2 _ (omega arith) (omega arith) 31 31 (omega arith))

  pub common_vector : d.dispatch.vector ≡ base_of (read_of c Status) + 0x180
  common_vector = rw (is_taken c e pc slot bad proper) (common (read_of c Status) (vector_kind_of e) proper nested)
