-- NMI touches ErrorEPC and four bits of Status only (6.4.6), and `eret` returns from it to where it came.
use Rattle.std.proofs.Common.{◌≡◌, ℕ, ◌^◌, ◌<◌, cond, eqb, length, refl, ap, ◌∙◌, arith}
use Rattle.bits.specs.Field.{field_of}
use Rattle.bits.proofs.FieldLaws.{field_with, bit_apart}
use Rattle.bits.proofs.MaskLaws.{under_ones}
use Rattle.bits.proofs.UnderLaws.{under_with}
use Rattle.cop0.specs.declared.registers.Cop0.{Cop0}
use Rattle.cop0.specs.Registers.{Status, EPC, ErrorEPC, among, unused, arch_mask}
use Rattle.cop0.specs.File.{read_at, read_of, set_hardware_of}
use Rattle.cop0.proofs.Hardware.{set_file, read_past, read_back, read_kept}
use Rattle.exception.specs.declared.returning.Returned.{Returned}
use Rattle.exception.specs.Taking.{nmi_status_of, nmi_of}
use Rattle.exception.specs.Returning.{returned, eret_of}
use Rattle.exception.proofs.Untouched.{nmi_only}
use Rattle.exception.proofs.Return.{cleared_status}

-- a bit of Status that is none of the four
other_bit : (s b : ℕ) → (b ≡ 2 → ⊥) → (b ≡ 20 → ⊥) → (b ≡ 21 → ⊥) → (b ≡ 22 → ⊥) → field_of (nmi_status_of s) b b ≡ field_of s b b
other_bit s b erl sr ts bev =
    bit_apart _ 22 1 b (omega arith) bev
    ∙ bit_apart _ 20 1 b (omega arith) sr
    ∙ bit_apart _ 2 1 b (omega arith) erl
    ∙ bit_apart s 21 0 b (omega arith) ts

-- n: the registers c, after an NMI; besides these two, `nmi_only` says that no register has changed
module _ (c : Cop0) (file : length c.regs ≡ 32) (pc : ℕ) where
  abbrev pub n : Cop0
  n = (nmi_of c pc).cop0

  pub error_epc_reads : pc < 2 ^ 64 → read_of n ErrorEPC ≡ pc
  unfolding nmi_of read_at unused among arch_mask
  error_epc_reads h =
      read_past ErrorEPC (λ f. refl) Status _ (set_hardware_of c ErrorEPC pc) refl refl
      ∙ read_back ErrorEPC (λ f. refl) (omega arith) c file pc (under_ones 64 pc h)

  -- every field of Status lies under its mask
  pub status_reads : read_of n Status ≡ nmi_status_of (read_of c Status)
  unfolding nmi_of read_at unused among arch_mask
  status_reads =
      read_back Status (λ f. refl) (omega arith) (set_hardware_of c ErrorEPC pc) (set_file c ErrorEPC pc 32 file) _
      (under_with (arch_mask Status) _ 22 22 1 (omega arith) (omega arith) refl
      (under_with (arch_mask Status) _ 20 20 1 (omega arith) (omega arith) refl
      (under_with (arch_mask Status) _ 2 2 1 (omega arith) (omega arith) refl
      (under_with (arch_mask Status) (read_of c Status) 21 21 0 (omega arith) (omega arith) refl
      (read_kept Status (λ f. refl) (omega arith) c)))))

  pub other_bits : (b : ℕ) → (b ≡ 2 → ⊥) → (b ≡ 20 → ⊥) → (b ≡ 21 → ⊥) → (b ≡ 22 → ⊥)
      → field_of (read_of n Status) b b ≡ field_of (read_of c Status) b b
  other_bits b erl sr ts bev = ap (λ (s : ℕ). field_of s b b) status_reads ∙ other_bit (read_of c Status) b erl sr ts bev

  -- ERL is set
  erl_on : field_of (read_of n Status) 2 2 ≡ 1
  erl_on =
      ap (λ (s : ℕ). field_of s 2 2) status_reads
      ∙ bit_apart _ 22 1 2 (omega arith) (omega arith)
      ∙ bit_apart _ 20 1 2 (omega arith) (omega arith)
      ∙ field_with _ 2 2 1 (omega arith) (omega arith)

  by_error_epc : eret_of n ≡ returned n ErrorEPC 2
  unfolding eret_of
  by_error_epc = ap (λ (f : ℕ). cond (eqb f 1) (returned n ErrorEPC 2) (returned n EPC 1)) erl_on

  pub back : pc < 2 ^ 64 → (eret_of n).pc ≡ pc
  back h = ap (λ (x : Returned). x.pc) by_error_epc ∙ error_epc_reads h

  -- and is cleared by the return
  pub erl_off : field_of (read_of (eret_of n).cop0 Status) 2 2 ≡ 0
  unfolding arch_mask
  erl_off =
      ap (λ (x : Returned). field_of (read_of x.cop0 Status) 2 2) by_error_epc
      ∙ ap (λ (s : ℕ). field_of s 2 2) (cleared_status n ((nmi_only c pc).file ∙ file) ErrorEPC 2 (omega arith) refl)
      ∙ field_with (read_of n Status) 2 2 0 (omega arith) (omega arith)
