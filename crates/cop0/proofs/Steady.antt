-- Random is six bits in the fresh record, and every operation that a session has keeps it so.
use Rattle.std.proofs.Common.{◌≡◌, ℕ, zero, suc, ◌/◌, ◌%◌, ◌^◌, ◌<◌, Bool, true, false, cond, T, eqb, ltb, List, length, sym, refl, ap, ◌∙◌, subst, arith, ltb→lt, length-set, get_or-set_other, get_or-set_same}
use native.Mathlib.Decide.{ℕ_discrete}
use lib.Bits.{and_mask}
use lib.Seq.{set-get_or}
use Rattle.bits.specs.Mask.{under, merged}
use Rattle.bits.specs.Extension.{low32_of}
use Rattle.bits.proofs.MaskLaws.{merged_none}
use Rattle.cop0.specs.declared.registers.Cop0.{Cop0}
use Rattle.cop0.specs.Registers.{Random, Wired, Count, Compare, Cause, among, write_mask, arch_mask}
use Rattle.cop0.specs.Record.{reg, with_reg, with_epoch, with_latch, fresh}
use Rattle.cop0.specs.Interrupt.{set_ip_of}
use Rattle.cop0.specs.Clock.{asked}
use Rattle.cop0.specs.Random.{random_of}
use Rattle.cop0.specs.File.{besides, write_at, set_hardware_of}
use Rattle.cop0.specs.Access.{dmtc0_of}
use Rattle.cop0.specs.Advance.{advance_of}
use Rattle.cop0.specs.Machine.{six_bit, ticks, steps, Kept, Steady}
use Rattle.cop0.specs.Only.{Only}
use Rattle.cop0.proofs.Hardware.{only_kept}
use Rattle.cop0.proofs.Keeping.{fresh_kept, set_ip_kept, set_hardware_kept, dmtc0_kept, advance_kept}
use Rattle.cop0.proofs.Machine.{advance_is, advance_refused}
use Rattle.cop0.proofs.Order.{ticks_kept, ticks_six, steps_six}

pub fresh_steady : Steady fresh
unfolding fresh
fresh_steady = record { kept = fresh_kept; random = omega arith }

-- six bits that are all of Random are its field
pub steady_six : (c : Cop0) → Steady c → six_bit c ≡ c
unfolding six_bit
steady_six c s = rw (whole (reg c Random) s.random, set-get_or c.regs Random 0)
  where
    whole : (x : ℕ) → x < 2 ^ 6 → x / 2 ^ 0 % 2 ^ 6 ≡ x
    whole x h = omega arith

-- and the other way round
six_small : (c : Cop0) → Kept c → six_bit c ≡ c → reg c Random < 2 ^ 6
unfolding six_bit
six_small c k e =
    let back : reg (with_reg c Random (random_of c)) Random ≡ random_of c = get_or-set_same c.regs Random (random_of c) 0 (omega (arith, k)) in
    let same : random_of c ≡ reg c Random = sym back ∙ ap (λ (d : Cop0). reg d Random) e in
    omega (arith, same)

-- a record in which others than Random have changed
pub only_steady : {ns : List ℕ} {c d : Cop0} → Only ns c d → among ns Random ≡ false → Steady c → Steady d
only_steady o h s = record { kept = only_kept o s.kept; random = subst (λ (x : ℕ). x < 2 ^ 6) (sym (o.others Random h)) s.random }

set_other : (c : Cop0) → reg c Random < 2 ^ 6 → (n x : ℕ) → (Random ≡ n → ⊥) → reg (with_reg c n x) Random < 2 ^ 6
set_other c s n x apart = subst (λ (y : ℕ). y < 2 ^ 6) (sym (get_or-set_other c.regs n Random x 0 apart)) s

pub set_ip_steady : (c : Cop0) → Steady c → (b : ℕ) (on : Bool) → Steady (set_ip_of c b on)
unfolding set_ip_of
set_ip_steady c s b on = record { kept = set_ip_kept c s.kept b on; random = set_other c s.random Cause _ (omega arith) }

-- what the hardware sets Random to has six bits
pub set_hardware_steady : (c : Cop0) → Steady c → (n v : ℕ) → Steady (set_hardware_of c n v)
unfolding set_hardware_of arch_mask
set_hardware_steady c s n v = record { kept = set_hardware_kept c s.kept n v; random = go (ℕ_discrete Random (n % 32)) }
  where
    go : Dec (Random ≡ n % 32) → reg (with_reg c (n % 32) (under (arch_mask (n % 32)) v)) Random < 2 ^ 6
    go (yes p) =
        let got : reg (with_reg c Random (under (arch_mask Random) v)) Random ≡ v % 2 ^ 6
        = get_or-set_same c.regs Random (under (arch_mask Random) v) 0 (omega (arith, s.kept.file)) ∙ and_mask v 6 in
        rw (← p) (omega (arith, got))
    go (no p) = set_other c s.random (n % 32) _ p

-- no bit of Random is under its write mask
stored : (c : Cop0) → length c.regs ≡ 32 → reg c Random < 2 ^ 6 → (n v : ℕ)
    → reg (with_reg c n (merged (write_mask n) v (reg c n))) Random < 2 ^ 6
unfolding write_mask
stored c file s zero v = set_other c s 0 _ (omega arith)
stored c file s (suc zero) v =
    subst (λ (x : ℕ). x < 2 ^ 6)
    (sym (get_or-set_same c.regs Random (merged 0 v (reg c Random)) 0 (omega (arith, file)) ∙ merged_none 64 v (reg c Random) (omega (arith, s)))) s
stored c file s (suc (suc n)) v = set_other c s (suc (suc n)) _ (omega arith)

-- and what a write to Count, Compare or Wired does besides leaves it or makes it 31
besides_small : (c : Cop0) → length c.regs ≡ 32 → reg c Random < 2 ^ 6 → (n v : ℕ) → reg (besides n v c) Random < 2 ^ 6
unfolding besides asked set_ip_of
besides_small c file s n v = go (eqb n Count) (eqb n Compare) (eqb n Wired)
  where
    set_31 : reg (with_reg c Random 31) Random ≡ 31
    set_31 = get_or-set_same c.regs Random 31 0 (omega (arith, file))

    go : (b₁ b₂ b₃ : Bool)
        → reg
        (cond b₁ (asked (with_epoch c (low32_of v) c.now))
        (cond b₂ (asked (set_ip_of c 7 false))
        (cond b₃ (with_reg c Random 31) c)))
        Random < 2 ^ 6
    go true b₂ b₃ = s
    go false true b₃ = set_other c s Cause _ (omega arith)
    go false false true = omega (arith, set_31)
    go false false false = s

write_small : (c : Cop0) → length c.regs ≡ 32 → reg c Random < 2 ^ 6 → (n v : ℕ) → reg (write_at c n v) Random < 2 ^ 6
unfolding write_at
write_small c file s n v = besides_small _ (length-set c.regs n _ ∙ file) (stored c file s n v) n v

pub dmtc0_steady : (c : Cop0) → Steady c → (n v : ℕ) → Steady (dmtc0_of c n v)
unfolding dmtc0_of
dmtc0_steady c s n v =
    record { kept = dmtc0_kept c s.kept n v; random = write_small (with_latch c v) s.kept.file s.random (n % 32) v }

-- an advance leaves the machine's Random, or is refused
advance_small : (c : Cop0) → Steady c → (n m : ℕ) → n < 2 ^ 32 → reg (advance_of c n m) Random < 2 ^ 6
advance_small c s n m h =
    six_small (advance_of c n m) (advance_kept c s.kept n m)
    (ap six_bit is ∙ steps_six m (ticks n c) (ticks_kept n c s.kept) (ticks_six n c (steady_six c s)) ∙ sym is)
  where
    is : advance_of c n m ≡ steps m (ticks n c)
    is = advance_is c s.kept n m h ∙ ap (λ (d : Cop0). steps m (ticks n d)) (steady_six c s)

pub advance_steady : (c : Cop0) → Steady c → (n m : ℕ) → Steady (advance_of c n m)
advance_steady c s n m = record { kept = advance_kept c s.kept n m; random = go (ltb n (2 ^ 32)) refl }
  where
    go : (b : Bool) → ltb n (2 ^ 32) ≡ b → reg (advance_of c n m) Random < 2 ^ 6
    go true e = advance_small c s n m (ltb→lt n (2 ^ 32) (subst T (sym e) tt))
    go false e = subst (λ (d : Cop0). reg d Random < 2 ^ 6) (sym (advance_refused c n m e)) s.random
