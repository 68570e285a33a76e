-- The fresh register file is one that operations can make, and every operation of a session makes another.
use Rattle.std.proofs.Common.{◌≡◌, ℕ, zero, suc, ◌+◌, ◌-◌, ◌%◌, ◌^◌, ◌<◌, ◌≤◌, Bool, true, false, cond, T, eqb, ltb, length, sym, refl, ◌∙◌, subst, arith, ltb→lt, length-set, get_or-set_other, get_or-set_same, eqb-true}
use native.Mathlib.Decide.{ℕ_discrete}
use lib.Bits.{and_mask}
use Rattle.bits.specs.Field.{field_of, bit}
use Rattle.bits.specs.Mask.{under}
use Rattle.bits.specs.Extension.{low32_of}
use Rattle.bits.proofs.FieldLaws.{field_lt}
use Rattle.bits.proofs.MaskLaws.{merged_kept, under_again, under_ones}
use Rattle.bits.proofs.UnderLaws.{under_with}
use Rattle.bits.proofs.Tables.{at_each}
use Rattle.cop0.specs.declared.registers.Cop0.{Cop0}
use Rattle.cop0.specs.Registers.{Random, Wired, Count, Compare, Cause, arch_mask, write_mask}
use Rattle.cop0.specs.Record.{reg, with_reg, with_epoch, with_latch, fresh}
use Rattle.cop0.specs.Interrupt.{set_ip_of}
use Rattle.cop0.specs.Clock.{asked, edge_of}
use Rattle.cop0.specs.Random.{random_of, wired_of, random_step, random_steps, tick_random_by_of}
use Rattle.cop0.specs.File.{besides, write_at, set_hardware_of}
use Rattle.cop0.specs.Access.{dmtc0_of}
use Rattle.cop0.specs.Advance.{moved, raised_if, advance_of}
use Rattle.cop0.specs.Machine.{Kept, Steady}
use Rattle.cop0.proofs.Keeping.{fresh_kept, set_ip_kept, set_hardware_kept, dmtc0_kept, advance_kept}
use Rattle.cop0.specs.Within.{Within}

-- what software can write a read can give
pub write_in_arch : (n : ℕ) → n < 32 → under (arch_mask n) (write_mask n) ≡ write_mask n
unfolding arch_mask write_mask
write_in_arch n h =
    eqb-true (under (arch_mask n) (write_mask n)) (write_mask n)
    (at_each 32 (λ k. eqb (under (arch_mask k) (write_mask k)) (write_mask k)) refl n h)

arch_word : (n : ℕ) → n < 32 → arch_mask n < 2 ^ 64
unfolding arch_mask
arch_word n h =
    let e : ltb (arch_mask n) (2 ^ 64) ≡ true = at_each 32 (λ k. ltb (arch_mask k) (2 ^ 64)) refl n h in
    ltb_true e
  where
    ltb_true : {a b : ℕ} → ltb a b ≡ true → a < b
    ltb_true {a} {b} e = ltb→lt a b (subst T (sym e) tt)

-- all but the clock and the mark, of which Keeping has laws
record Rest (c : Cop0) : Type 0 where
  pub file : length c.regs ≡ 32
  pub bits : (n : ℕ) → n < 32 → under (arch_mask n) (reg c n) ≡ reg c n
  pub ec : c.ec ≤ 7

with_kept : {c : Cop0} → Kept c → Rest c → Within c
with_kept k r = record { kept = k; bits = r.bits; ec = r.ec }

rest : {c : Cop0} → Within c → Rest c
rest w = record { file = w.kept.file; bits = w.bits; ec = w.ec }

-- one register set to bits of its mask
reg_rest : (c : Cop0) → Rest c → (m x : ℕ) → (m < 32 → under (arch_mask m) x ≡ x) → Rest (with_reg c m x)
reg_rest c r m x e =
    record { file = length-set c.regs m x ∙ r.file; bits = λ n h. go n h (ℕ_discrete n m); ec = r.ec }
  where
    go : (n : ℕ) → n < 32 → Dec (n ≡ m) → under (arch_mask n) (reg (with_reg c m x) n) ≡ reg (with_reg c m x) n
    go n h (yes p) =
        let got : reg (with_reg c n x) n ≡ x = get_or-set_same c.regs n x 0 (omega (arith, r.file)) in
        rw (← p, got) (subst (λ (k : ℕ). k < 32 → under (arch_mask k) x ≡ x) (sym p) e h)
    go n h (no p) = rw (get_or-set_other c.regs m n x 0 p) (r.bits n h)

pub fresh_within : Within fresh
unfolding fresh arch_mask
fresh_within =
    record {
      kept = fresh_kept;
      bits = λ n h. eqb-true (under (arch_mask n) (reg fresh n)) (reg fresh n)
          (at_each 32 (λ k. eqb (under (arch_mask k) (reg fresh k)) (reg fresh k)) refl n h);
      ec = omega arith;
    }

pub set_hardware_within : (c : Cop0) → Within c → (n v : ℕ) → Within (set_hardware_of c n v)
unfolding set_hardware_of
set_hardware_within c w n v =
    with_kept (set_hardware_kept c w.kept n v)
    (reg_rest c (rest w) (n % 32) _ (λ h. under_again 64 (arch_mask (n % 32)) v (arch_word (n % 32) h)))

-- IP7..IP0 are bits of Cause
ip_ones : (b : ℕ) → field_of (arch_mask Cause) (8 + b % 8) (8 + b % 8) ≡ 2 ^ (8 + b % 8 + 1 - (8 + b % 8)) - 1
unfolding arch_mask
ip_ones b =
    eqb-true _ _
    (at_each 8 (λ k. eqb (field_of (arch_mask Cause) (8 + k) (8 + k)) (2 ^ (8 + k + 1 - (8 + k)) - 1)) refl (b % 8) (omega arith))

ip_rest : (c : Cop0) → Rest c → (b : ℕ) (on : Bool) → Rest (set_ip_of c b on)
unfolding set_ip_of
ip_rest c r b on =
    reg_rest c r Cause _
    (λ h. under_with (arch_mask Cause) (reg c Cause) (8 + b % 8) (8 + b % 8) (bit on) (omega arith) (omega arith) (ip_ones b) (r.bits Cause h))

pub set_ip_within : (c : Cop0) → Within c → (b : ℕ) (on : Bool) → Within (set_ip_of c b on)
set_ip_within c w b on = with_kept (set_ip_kept c w.kept b on) (ip_rest c (rest w) b on)

-- Random, stepped from six bits, is six bits
step_six : (w r : ℕ) → r < 64 → random_step w r < 64
unfolding random_step
step_six w r h = go (eqb r w)
  where
    go : (b : Bool) → cond b 31 ((r + 63) % 64) < 64
    go true = omega arith
    go false = omega arith

steps_six : (w n r : ℕ) → r < 64 → random_steps w n r < 64
unfolding random_steps
steps_six w zero r h = h
steps_six w (suc n) r h = steps_six w n (random_step w r) (step_six w r h)

random_rest : (c : Cop0) → Rest c → (x : ℕ) → x < 64 → Rest (with_reg c Random x)
unfolding arch_mask
random_rest c r x h = reg_rest c r Random x (λ l. under_ones 6 x h)

same_rest : {c : Cop0} (d : Cop0) → Rest c → d.regs ≡ c.regs → d.ec ≡ c.ec → Rest d
same_rest d r e₁ e₂ = record { file = rw e₁ r.file; bits = rw e₁ r.bits; ec = rw e₂ r.ec }

besides_rest : (c : Cop0) → Rest c → (n v : ℕ) → Rest (besides n v c)
unfolding besides asked
besides_rest c r n v = go (eqb n Count) (eqb n Compare) (eqb n Wired)
  where
    go : (b₁ b₂ b₃ : Bool)
        → Rest
        (cond b₁ (asked (with_epoch c (low32_of v) c.now))
        (cond b₂ (asked (set_ip_of c 7 false))
        (cond b₃ (with_reg c Random 31) c)))
    go true b₂ b₃ = same_rest _ r refl refl
    go false true b₃ = same_rest _ (ip_rest c r 7 false) refl refl
    go false false true = random_rest c r 31 (omega arith)
    go false false false = r

pub dmtc0_within : (c : Cop0) → Within c → (n v : ℕ) → Within (dmtc0_of c n v)
unfolding dmtc0_of write_at
dmtc0_within c w n v =
    let k : ℕ = n % 32 in
    with_kept (dmtc0_kept c w.kept n v)
    (besides_rest _
    (reg_rest (with_latch c v) (same_rest (with_latch c v) (rest w) refl refl) k _
    (λ h. merged_kept 64 (arch_mask k) (write_mask k) v (reg c k) (write_in_arch k h) (w.bits k h))) k v)

pub advance_within : (c : Cop0) → Within c → (n m : ℕ) → Within (advance_of c n m)
unfolding advance_of asked moved tick_random_by_of
advance_within c w n m = with_kept (advance_kept c w.kept n m) (go (ltb n (2 ^ 32)) (edge_of (moved c n m)))
  where
    r : Rest (asked (moved c n m))
    r =
        same_rest _ (random_rest c (rest w) _ (steps_six (wired_of c) m (random_of c) (field_lt (reg c Random) 5 0))) refl refl

    go : (b e : Bool) → Rest (cond b (raised_if e (asked (moved c n m))) c)
    go true true = ip_rest (asked (moved c n m)) r 7 true
    go true false = r
    go false e = rest w

-- what the clock's theorem asks is a part of it
pub within_steady : {c : Cop0} → Within c → Steady c
unfolding arch_mask
within_steady {c} w =
    record { kept = w.kept; random = omega (arith, sym (w.bits Random (omega arith)) ∙ and_mask (reg c Random) 6) }
