-- An exception taken with EXL 0 and ERL 0, and then `eret`: back to EPC, with Status as it was.
use Rattle.std.proofs.Common.{◌≡◌, ℕ, ◌+◌, ◌-◌, ◌^◌, ◌<◌, Bool, false, cond, eqb, length, sym, refl, ap, ◌∙◌, arith}
use Rattle.bits.specs.Field.{field_of, with_field_of, bit}
use Rattle.bits.proofs.FieldLaws.{field_higher, with_again, with_own, bit_tested}
use Rattle.bits.proofs.UnderLaws.{under_with}
use Rattle.cop0.specs.declared.registers.Cop0.{Cop0}
use Rattle.cop0.specs.Registers.{Status, EPC, ErrorEPC, among, unused, arch_mask}
use Rattle.cop0.specs.File.{read_at, read_of}
use Rattle.cop0.proofs.Hardware.{read_back, read_kept}
use Rattle.exception.specs.declared.kinds.Exception.{Exception}
use Rattle.exception.specs.declared.epilogue.Dispatched.{Dispatched}
use Rattle.exception.specs.declared.returning.Returned.{Returned}
use Rattle.exception.specs.Vectors.{is_reset}
use Rattle.exception.specs.Kinds.{vector_kind_of}
use Rattle.exception.specs.Epilogue.{epc_of, in_handler}
use Rattle.exception.specs.Taking.{taken_of, dispatch_of}
use Rattle.exception.specs.Returning.{in_error, returned, eret_of}
use Rattle.exception.proofs.Untouched.{dispatch_only}
use Rattle.exception.proofs.Reading.{status_reads, first_epc}
use Rattle.exception.proofs.Nesting.{is_taken}

-- Status, where `eret` clears bit b
pub cleared_status : (c : Cop0) → length c.regs ≡ 32 → (n b : ℕ) → b < 64 → field_of (arch_mask Status) b b ≡ 2 ^ (b + 1 - b) - 1
    → read_of (returned c n b).cop0 Status ≡ with_field_of (read_of c Status) b b 0
unfolding read_at unused among arch_mask
cleared_status c file n b h ones =
    read_back Status (λ f. refl) (omega arith) c file _
    (under_with (arch_mask Status) (read_of c Status) b b 0 (omega arith) (omega arith) ones
    (read_kept Status (λ f. refl) (omega arith) c))

-- a bit that does not test as 1 is 0
off : (x b : ℕ) → eqb (field_of x b b) 1 ≡ false → field_of x b b ≡ 0
off x b h = sym (bit_tested x b) ∙ ap bit h

-- r: the registers c, after an exception that is not NMI, taken with EXL 0 and ERL 0
module _ (c : Cop0) (file : length c.regs ≡ 32) (e : Exception) (pc : ℕ) (slot : Bool) (bad : ℕ)
    (proper : is_reset (vector_kind_of e) ≡ false) (first : in_handler c ≡ false) (sound : in_error c ≡ false) where
  abbrev pub r : Cop0
  r = (dispatch_of c e pc slot bad).cop0

  taken : r ≡ taken_of c e pc slot bad
  taken = ap (λ (d : Dispatched). d.cop0) (is_taken c e pc slot bad proper)

  r_status : read_of r Status ≡ with_field_of (read_of c Status) 1 1 1
  r_status = ap (λ (x : Cop0). read_of x Status) taken ∙ status_reads c file e pc slot bad

  -- ERL is still 0
  by_epc : eret_of r ≡ returned r EPC 1
  unfolding eret_of
  by_epc =
      let same : field_of (read_of r Status) 2 2 ≡ field_of (read_of c Status) 2 2 =
      ap (λ (x : ℕ). field_of x 2 2) r_status ∙ field_higher (read_of c Status) 1 1 1 (omega arith) (omega arith) 2 2 (omega arith) in
      ap (λ (b : Bool). cond b (returned r ErrorEPC 2) (returned r EPC 1)) (ap (λ (f : ℕ). eqb f 1) same ∙ sound)

  pub back_to_epc : pc < 2 ^ 64 → (eret_of r).pc ≡ epc_of pc slot
  back_to_epc h =
      ap (λ (x : Returned). x.pc) by_epc
      ∙ ap (λ (x : Cop0). read_of x EPC) taken
      ∙ first_epc c file e pc slot bad first h

  -- EXL is 0 again, and the rest of Status was not touched
  pub status_again : read_of (eret_of r).cop0 Status ≡ read_of c Status
  unfolding arch_mask
  status_again =
      let s : ℕ = read_of c Status in
      ap (λ (x : Returned). read_of x.cop0 Status) by_epc
      ∙ cleared_status r ((dispatch_only c e pc slot bad).file ∙ file) EPC 1 (omega arith) refl
      ∙ ap (λ (x : ℕ). with_field_of x 1 1 0) r_status
      ∙ with_again s 1 1 1 0 (omega arith) (omega arith)
      ∙ ap (with_field_of s 1 1) (sym (off s 1 first))
      ∙ with_own s 1 1 (omega arith) (omega arith)
