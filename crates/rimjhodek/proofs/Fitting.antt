-- What operations make of a record whose fields fit fits again.
use Rattle.std.proofs.Common.{◌≡◌, ℕ, ◌^◌, Bool, true, false, cond, eqb, ltb, List, length, sym, refl, ◌∙◌, subst, arith, length-set}
use Rattle.bits.specs.Extension.{low32_of}
use Rattle.cop0.specs.declared.registers.Cop0.{Cop0}
use Rattle.cop0.specs.Registers.{Random, Wired, Count, Compare}
use Rattle.cop0.specs.Record.{with_regs, with_reg, with_now, with_epoch, with_latch, fresh}
use Rattle.cop0.specs.Only.{Only}
use Rattle.cop0.specs.Interrupt.{set_ip_of}
use Rattle.cop0.specs.Clock.{edge_of, asked}
use Rattle.cop0.specs.Random.{tick_random_of, tick_random_by_of}
use Rattle.cop0.specs.File.{besides, write_at, write_of, set_hardware_of}
use Rattle.cop0.specs.Access.{dmtc0_of}
use Rattle.cop0.specs.Advance.{moved, raised_if, advance_of}
use Rattle.rimjhodek.proofs.Meaning.{Fits}

pub fresh_fits : Fits fresh
unfolding fresh
fresh_fits = record { file = refl; value = omega arith; last = omega arith; ec = omega arith }

pub reg_fits : {c : Cop0} → Fits c → (n x : ℕ) → Fits (with_reg c n x)
reg_fits {c} f n x = record { file = length-set c.regs n x ∙ f.file; value = f.value; last = f.last; ec = f.ec }

-- nothing but some registers has changed
file_fits : {c : Cop0} → Fits c → (rs : List ℕ) → length rs ≡ length c.regs → Fits (with_regs c rs)
file_fits f rs l = record { file = l ∙ f.file; value = f.value; last = f.last; ec = f.ec }

pub only_fits : {ns : List ℕ} {c d : Cop0} → Fits c → Only ns c d → Fits d
only_fits {ns} {c} {d} f o = subst Fits (sym o.rest) (file_fits f d.regs o.file)

pub now_fits : {c : Cop0} → Fits c → (t : ℕ) → Fits (with_now c t)
now_fits f t = record { file = f.file; value = f.value; last = f.last; ec = f.ec }

pub asked_fits : {c : Cop0} → Fits c → Fits (asked c)
unfolding asked
asked_fits f = record { file = f.file; value = f.value; last = omega arith; ec = f.ec }

pub set_ip_fits : {c : Cop0} → Fits c → (b : ℕ) (on : Bool) → Fits (set_ip_of c b on)
unfolding set_ip_of
set_ip_fits f b on = reg_fits f _ _

pub random_fits : {c : Cop0} → Fits c → (n : ℕ) → Fits (tick_random_by_of c n)
unfolding tick_random_by_of
random_fits f n = reg_fits f _ _

epoch_fits : {c : Cop0} → Fits c → (v t : ℕ) → Fits (with_epoch c (low32_of v) t)
epoch_fits f v t = record { file = f.file; value = omega arith; last = f.last; ec = f.ec }

latch_fits : {c : Cop0} → Fits c → (v : ℕ) → Fits (with_latch c v)
latch_fits f v = record { file = f.file; value = f.value; last = f.last; ec = f.ec }

besides_fits : {c : Cop0} → Fits c → (n v : ℕ) → Fits (besides n v c)
unfolding besides
besides_fits {c} f n v = go (eqb n Count) (eqb n Compare) (eqb n Wired)
  where
    go : (b₁ b₂ b₃ : Bool)
        → Fits
        (cond b₁ (asked (with_epoch c (low32_of v) c.now))
        (cond b₂ (asked (set_ip_of c 7 false))
        (cond b₃ (with_reg c Random 31) c)))
    go true b₂ b₃ = asked_fits (epoch_fits f v c.now)
    go false true b₃ = asked_fits (set_ip_fits f 7 false)
    go false false true = reg_fits f Random 31
    go false false false = f

pub write_fits : {c : Cop0} → Fits c → (n v : ℕ) → Fits (write_of c n v)
unfolding write_at
write_fits f n v = besides_fits (reg_fits f _ _) _ v

pub dmtc0_fits : {c : Cop0} → Fits c → (n v : ℕ) → Fits (dmtc0_of c n v)
unfolding dmtc0_of
dmtc0_fits f n v = write_fits (latch_fits f v) n v

pub set_hardware_fits : (c : Cop0) → Fits c → (n v : ℕ) → Fits (set_hardware_of c n v)
unfolding set_hardware_of
set_hardware_fits c f n v = reg_fits f _ _

pub tick_fits : {c : Cop0} → Fits c → Fits (tick_random_of c)
unfolding tick_random_of
tick_fits f = reg_fits f _ _

pub advance_fits : {c : Cop0} → Fits c → (n m : ℕ) → Fits (advance_of c n m)
unfolding advance_of moved
advance_fits {c} f n m = go (ltb n (2 ^ 32)) (edge_of (moved c n m))
  where
    after : Fits (asked (moved c n m))
    after = asked_fits (random_fits (now_fits f _) m)

    go : (b e : Bool) → Fits (cond b (raised_if e (asked (moved c n m))) c)
    go true true = set_ip_fits after 7 true
    go true false = after
    go false e = f
