-- The machine's ticks and steps may change places, and add up.
use Rattle.std.proofs.Common.{◌≡◌, ℕ, zero, suc, ◌+◌, Bool, sym, refl, ap, ◌∙◌, subst, add_assoc, suc-add, zero-add, arith, length-set, get_or-set_other}
use Rattle.bits.specs.Field.{bit}
use Rattle.cop0.specs.declared.registers.Cop0.{Cop0}
use Rattle.cop0.specs.Registers.{Random, Compare}
use Rattle.cop0.specs.Clock.{asked}
use Rattle.cop0.specs.Random.{random_of, wired_of, random_step, tick_random_of}
use Rattle.cop0.specs.Machine.{becomes, one_tick, ticks, edges, steps, six_bit, Kept}
use Rattle.cop0.proofs.Machine.{
  jumped,
  tick_is,
  jump_kept,
  wired_jumped,
  random_jumped,
  jump_with,
  six_jumped,
  six_tick,
}

-- a tick and a step may change places
step_jumped : (c : Cop0) (n : ℕ) (b : Bool) → jumped (tick_random_of c) n b ≡ tick_random_of (jumped c n b)
unfolding tick_random_of
step_jumped c n b =
    jump_with c n (random_step (wired_of c) (random_of c)) b ∙ rw (wired_jumped c n b, random_jumped c n b)

becomes_step : (c : Cop0) → becomes (tick_random_of c) ≡ becomes c
unfolding tick_random_of asked
becomes_step c = rw (get_or-set_other c.regs Random Compare (random_step (wired_of c) (random_of c)) 0 (omega arith))

tick_step : (c : Cop0) → one_tick (tick_random_of c) ≡ tick_random_of (one_tick c)
tick_step c =
    tick_is (tick_random_of c)
    ∙ ap (jumped (tick_random_of c) 1) (becomes_step c)
    ∙ step_jumped c 1 (becomes c)
    ∙ ap tick_random_of (sym (tick_is c))

pub ticks_step : (n : ℕ) (c : Cop0) → ticks n (tick_random_of c) ≡ tick_random_of (ticks n c)
unfolding ticks
ticks_step zero c = refl
ticks_step (suc n) c = ap (ticks n) (tick_step c) ∙ ticks_step n (one_tick c)

pub ticks_steps : (m n : ℕ) (c : Cop0) → ticks n (steps m c) ≡ steps m (ticks n c)
unfolding steps
ticks_steps zero n c = refl
ticks_steps (suc m) n c = ticks_steps m n (tick_random_of c) ∙ ap (steps m) (ticks_step n c)

pub edges_step : (n : ℕ) (c : Cop0) → edges n (tick_random_of c) ≡ edges n c
unfolding edges
edges_step zero c = refl
edges_step (suc n) c =
    ap (λ (b : Bool). bit b + edges n (one_tick (tick_random_of c))) (becomes_step c)
    ∙ ap (λ (s : Cop0). bit (becomes c) + edges n s) (tick_step c)
    ∙ ap (λ (e : ℕ). bit (becomes c) + e) (edges_step n (one_tick c))

pub edges_steps : (m n : ℕ) (c : Cop0) → edges n (steps m c) ≡ edges n c
unfolding steps
edges_steps zero n c = refl
edges_steps (suc m) n c = edges_steps m n (tick_random_of c) ∙ edges_step n c

-- they add up
pub ticks_add : (a b : ℕ) (c : Cop0) → ticks (a + b) c ≡ ticks b (ticks a c)
unfolding ticks
ticks_add zero b c = rw zero-add
ticks_add (suc a) b c = rw suc-add (ticks_add a b (one_tick c))

pub steps_add : (a b : ℕ) (c : Cop0) → steps (a + b) c ≡ steps b (steps a c)
unfolding steps
steps_add zero b c = rw zero-add
steps_add (suc a) b c = rw suc-add (steps_add a b (tick_random_of c))

pub edges_add : (a b : ℕ) (c : Cop0) → edges (a + b) c ≡ edges a c + edges b (ticks a c)
unfolding ticks edges
edges_add zero b c = rw (zero-add b) (sym (zero-add (edges b c)))
edges_add (suc a) b c =
    rw suc-add (ap (λ (e : ℕ). bit (becomes c) + e) (edges_add a b (one_tick c)) ∙ sym (add_assoc (bit (becomes c)) _ _))

-- and keep what is kept
tick_kept : (c : Cop0) → Kept c → Kept (one_tick c)
tick_kept c k = subst Kept (sym (tick_is c)) (jump_kept c k 1 (becomes c))

step_kept : (c : Cop0) → Kept c → Kept (tick_random_of c)
unfolding tick_random_of
step_kept c k = record { clock = k.clock; file = length-set c.regs Random _ ∙ k.file; mark = k.mark }

pub ticks_kept : (n : ℕ) (c : Cop0) → Kept c → Kept (ticks n c)
unfolding ticks
ticks_kept zero c k = k
ticks_kept (suc n) c k = ticks_kept n (one_tick c) (tick_kept c k)

pub steps_kept : (n : ℕ) (c : Cop0) → Kept c → Kept (steps n c)
unfolding steps
steps_kept zero c k = k
steps_kept (suc n) c k = steps_kept n (tick_random_of c) (step_kept c k)

-- a Random of six bits stays one
tick_six : (c : Cop0) → six_bit c ≡ c → six_bit (one_tick c) ≡ one_tick c
tick_six c e =
    ap six_bit (tick_is c)
    ∙ sym (six_jumped c 1 (becomes c))
    ∙ ap (λ (s : Cop0). jumped s 1 (becomes c)) e
    ∙ sym (tick_is c)

pub ticks_six : (n : ℕ) (c : Cop0) → six_bit c ≡ c → six_bit (ticks n c) ≡ ticks n c
unfolding ticks
ticks_six zero c e = e
ticks_six (suc n) c e = ticks_six n (one_tick c) (tick_six c e)

pub steps_six : (n : ℕ) (c : Cop0) → Kept c → six_bit c ≡ c → six_bit (steps n c) ≡ steps n c
unfolding steps
steps_six zero c k e = e
steps_six (suc n) c k e = steps_six n (tick_random_of c) (step_kept c k) (six_tick c (omega (arith, k)))
