-- Registers that the hardware sets: what is left alone, and what reads back.
use Rattle.std.proofs.Common.{◌≡◌, ℕ, ◌%◌, ◌^◌, ◌<◌, true, false, List, [], ◌∷◌, length, set, sym, refl, ap, ◌∙◌, subst, arith, length-set, get_or-set_other, get_or-set_same}
use Rattle.bits.specs.Mask.{under}
use Rattle.bits.specs.Extension.{low32_of}
use Rattle.bits.proofs.MaskLaws.{under_again}
use Rattle.cop0.specs.declared.registers.Cop0.{Cop0}
use Rattle.cop0.specs.Registers.{Compare, among, arch_mask}
use Rattle.cop0.specs.Record.{reg, with_regs}
use Rattle.cop0.specs.Clock.{count_of, compare_of}
use Rattle.cop0.specs.File.{read_at, set_hardware_of}
use Rattle.cop0.specs.Machine.{Kept}
use Rattle.cop0.specs.Only.{Only}

pub only_none : (ns : List ℕ) (c : Cop0) → Only ns c c
only_none ns c = record { rest = refl; file = refl; others = λ n h. refl }

-- one more register of the list
pub only_set : {ns : List ℕ} {c d : Cop0} → Only ns c d → (m v : ℕ) → among ns (m % 32) ≡ true → Only ns c (set_hardware_of d m v)
unfolding set_hardware_of
only_set {ns} {c} {d} o m v listed =
    let x : ℕ = under (arch_mask (m % 32)) v in
    record {
      rest = ap (λ (r : Cop0). with_regs r (set d.regs (m % 32) x)) o.rest;
      file = length-set d.regs (m % 32) x ∙ o.file;
      others = λ n h. get_or-set_other d.regs (m % 32) n x 0 (λ p. apart n h p) ∙ o.others n h;
    }
  where
    apart : (n : ℕ) → among ns n ≡ false → n ≡ m % 32 → ⊥
    apart n h p = let z : ◌≡◌ {A = ℕ} 0 1 = cc in omega arith

-- the registers stay as many
pub set_file : (d : Cop0) (m v k : ℕ) → length d.regs ≡ k → length (set_hardware_of d m v).regs ≡ k
unfolding set_hardware_of
set_file d m v k h = length-set d.regs (m % 32) (under (arch_mask (m % 32)) v) ∙ h

-- Count is as before, and so is what the clock's theorem asks
module _ {ns : List ℕ} {c d : Cop0} (o : Only ns c d) where
  pub only_count : count_of d ≡ count_of c
  only_count = ap count_of o.rest

  pub only_compare : among ns Compare ≡ false → compare_of d ≡ compare_of c
  only_compare h = ap low32_of (o.others Compare h)

  pub only_kept : Kept c → Kept d
  only_kept k = subst Kept (sym o.rest) (record { clock = k.clock; file = o.file ∙ k.file; mark = k.mark })

-- register n, which is neither unused nor Count nor Config
module _ (n : ℕ) (plain : (f : Cop0) → read_at f n ≡ under (arch_mask n) (reg f n)) where
  -- reads as before if it is not listed
  pub read_other : {ns : List ℕ} {c d : Cop0} → Only ns c d → among ns n ≡ false → read_at d n ≡ read_at c n
  read_other {ns} {c} {d} o h = plain d ∙ ap (under (arch_mask n)) (o.others n h) ∙ sym (plain c)

  -- reads as before when another register is set
  pub read_past : (m v : ℕ) (d : Cop0) → among (m ∷ []) (m % 32) ≡ true → among (m ∷ []) n ≡ false
      → read_at (set_hardware_of d m v) n ≡ read_at d n
  read_past m v d same other = read_other (only_set (only_none (m ∷ []) d) m v same) other

  -- reads what it is set to, if it has those bits
  pub read_back : n < 32 → (c : Cop0) → length c.regs ≡ 32 → (v : ℕ) → under (arch_mask n) v ≡ v → read_at (set_hardware_of c n v) n ≡ v
  unfolding set_hardware_of
  read_back h c file v kept =
      let same : n % 32 ≡ n = omega arith in
      plain (set_hardware_of c n v) ∙ rw (same, get_or-set_same c.regs n (under (arch_mask n) v) 0 (omega arith), kept) kept

  -- and has the bits that it reads
  pub read_kept : arch_mask n < 2 ^ 64 → (c : Cop0) → under (arch_mask n) (read_at c n) ≡ read_at c n
  read_kept word c = rw (plain c) (under_again 64 (arch_mask n) (reg c n) word)
