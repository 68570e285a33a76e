-- What the clock's theorem asks of a record holds of the fresh one, and every operation that a session has keeps it.
use Rattle.std.proofs.Common.{◌≡◌, ℕ, ◌%◌, ◌^◌, ◌<◌, Bool, true, false, cond, eqb, ltb, length, refl, ◌∙◌, arith, length-set}
use Rattle.bits.specs.Extension.{low32_of}
use Rattle.cop0.specs.declared.registers.Cop0.{Cop0}
use Rattle.cop0.specs.Registers.{Random, Wired, Count, Compare}
use Rattle.cop0.specs.Record.{with_reg, with_epoch, with_latch, fresh}
use Rattle.cop0.specs.Interrupt.{set_ip_of}
use Rattle.cop0.specs.Clock.{asked, edge_of}
use Rattle.cop0.specs.Random.{tick_random_by_of}
use Rattle.cop0.specs.File.{besides, write_at, set_hardware_of}
use Rattle.cop0.specs.Access.{dmtc0_of}
use Rattle.cop0.specs.Advance.{moved, raised_if, advance_of}
use Rattle.cop0.specs.Machine.{Kept}

pub fresh_kept : Kept fresh
unfolding fresh
fresh_kept = record { clock = omega arith; file = refl; mark = refl }

reg_kept : (c : Cop0) → Kept c → (n x : ℕ) → Kept (with_reg c n x)
reg_kept c k n x = record { clock = k.clock; file = length-set c.regs n x ∙ k.file; mark = k.mark }

-- asking the timer makes the mark right, whatever it was
asked_kept : (c : Cop0) → c.now < 2 ^ 64 → length c.regs ≡ 32 → Kept (asked c)
unfolding asked
asked_kept c clock file = record { clock = clock; file = file; mark = refl }

pub set_ip_kept : (c : Cop0) → Kept c → (b : ℕ) (on : Bool) → Kept (set_ip_of c b on)
unfolding set_ip_of
set_ip_kept c k b on = reg_kept c k _ _

pub set_hardware_kept : (c : Cop0) → Kept c → (n v : ℕ) → Kept (set_hardware_of c n v)
unfolding set_hardware_of
set_hardware_kept c k n v = reg_kept c k _ _

besides_kept : (c : Cop0) → Kept c → (n v : ℕ) → Kept (besides n v c)
unfolding besides
besides_kept c k n v = go (eqb n Count) (eqb n Compare) (eqb n Wired)
  where
    to_compare : Kept (set_ip_of c 7 false)
    to_compare = set_ip_kept c k 7 false

    go : (b₁ b₂ b₃ : Bool)
        → Kept
        (cond b₁ (asked (with_epoch c (low32_of v) c.now))
        (cond b₂ (asked (set_ip_of c 7 false))
        (cond b₃ (with_reg c Random 31) c)))
    go true b₂ b₃ = asked_kept (with_epoch c (low32_of v) c.now) k.clock k.file
    go false true b₃ = asked_kept (set_ip_of c 7 false) to_compare.clock to_compare.file
    go false false true = reg_kept c k Random 31
    go false false false = k

pub write_kept : (c : Cop0) → Kept c → (n v : ℕ) → Kept (write_at c n v)
unfolding write_at
write_kept c k n v = besides_kept _ (reg_kept c k n _) n v

pub dmtc0_kept : (c : Cop0) → Kept c → (n v : ℕ) → Kept (dmtc0_of c n v)
unfolding dmtc0_of
dmtc0_kept c k n v = write_kept (with_latch c v) (record { clock = k.clock; file = k.file; mark = k.mark }) (n % 32) v

moved_kept : (c : Cop0) → Kept c → (n m : ℕ) → Kept (asked (moved c n m))
unfolding moved tick_random_by_of
moved_kept c k n m = asked_kept _ (omega arith) (length-set c.regs Random _ ∙ k.file)

pub advance_kept : (c : Cop0) → Kept c → (n m : ℕ) → Kept (advance_of c n m)
unfolding advance_of
advance_kept c k n m = go (ltb n (2 ^ 32)) (edge_of (moved c n m))
  where
    go : (b e : Bool) → Kept (cond b (raised_if e (asked (moved c n m))) c)
    go true true = set_ip_kept (asked (moved c n m)) (moved_kept c k n m) 7 true
    go true false = moved_kept c k n m
    go false e = k
