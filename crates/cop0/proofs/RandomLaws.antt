-- Random by n steps: the walk down to Wired, and then the cycle that is entered at 31.
use Rattle.std.proofs.Common.{◌≡◌, ℕ, zero, suc, ◌+◌, ◌-◌, ◌%◌, ◌<◌, ◌≤◌, Bool, true, false, cond, eqb, sym, ap, ◌∙◌, mod-lt, mod-eq_of_lt, arith, eq-eqb, ne_eqb}
use native.Mathlib.Nat.{mod-eq-sub-mod}
use native.Mathlib.Decide.{dec_le, ℕ_discrete}
use Rattle.bits.specs.Field.{field_of}
use Rattle.cop0.specs.declared.registers.Cop0.{Cop0}
use Rattle.cop0.specs.Registers.{Random}
use Rattle.cop0.specs.Record.{with_reg}
use Rattle.cop0.specs.Random.{random_of, wired_of, random_step, random_steps, tick_random_of, tick_random_by_of}

pub step_at : (w r : ℕ) → r ≡ w → random_step w r ≡ 31
unfolding random_step
step_at w r e = simp (eq-eqb r w e)

pub step_off : (w r : ℕ) → (r ≡ w → ⊥) → random_step w r ≡ (r + 63) % 64
unfolding random_step
step_off w r e = simp (ne_eqb r w e)

pub step_lt : (w r : ℕ) → random_step w r < 64
unfolding random_step
step_lt w r = go (eqb r w)
  where
    go : (b : Bool) → cond b 31 ((r + 63) % 64) < 64
    go true = omega arith
    go false = omega arith

-- while n is at most the distance down to Wired
pub near : (w r n : ℕ) → w < 64 → r < 64 → n ≤ (r + 64 - w) % 64 → random_steps w n r ≡ (r + 64 - n) % 64
unfolding random_steps
near w r zero hw hr h = omega arith
near w r (suc n) hw hr h =
    ap (random_steps w n) (step_off w r (omega arith))
    ∙ near w ((r + 63) % 64) n hw (omega arith) (omega arith)
    ∙ omega arith

-- off Wired a step brings Random one nearer
one_down : (w r : ℕ) → w < 64 → r < 64 → (r ≡ w → ⊥) → ((r + 63) % 64 + 64 - w) % 64 + 1 ≡ (r + 64 - w) % 64
one_down w r hw hr e = omega arith

one_less : (n a b : ℕ) → a + 1 ≡ b → n - a - 1 ≡ suc n - b - 1
one_less n a b e = omega arith

-- beyond it: place k of the cycle of 31 down to Wired
abbrev place : ℕ → ℕ → ℕ
place w k = (95 - k % ((95 - w) % 64 + 1)) % 64

pub far : (w r n : ℕ) → w < 64 → r < 64 → (r + 64 - w) % 64 < n → random_steps w n r ≡ place w (n - (r + 64 - w) % 64 - 1)
unfolding random_steps
far w r zero hw hr h = omega arith
far w r (suc n) hw hr h =
    go (ℕ_discrete r w) (dec_le n ((95 - w) % 64)) (far w 31 n hw (omega arith)) (far w ((r + 63) % 64) n hw (omega arith))
  where
    go : Dec (r ≡ w)
        → Dec (n ≤ (95 - w) % 64)
        → ((95 - w) % 64 < n → random_steps w n 31 ≡ place w (n - (95 - w) % 64 - 1))
        → (((r + 63) % 64 + 64 - w) % 64 < n
        → random_steps w n ((r + 63) % 64) ≡ place w (n - ((r + 63) % 64 + 64 - w) % 64 - 1))
        → random_steps w n (random_step w r) ≡ place w (suc n - (r + 64 - w) % 64 - 1)
    go (yes e) (yes l) f g =
        ap (random_steps w n) (step_at w r e)
        ∙ near w 31 n hw (omega arith) l
        ∙ ap (λ (x : ℕ). (95 - x) % 64) (sym (mod-eq_of_lt {n = n} {m = (95 - w) % 64 + 1} (omega arith)))
        ∙ ap (place w) (omega arith)
    go (yes e) (no l) f g =
        ap (random_steps w n) (step_at w r e)
        ∙ f (omega arith)
        ∙ ap (place w) {x = n - (95 - w) % 64 - 1} {y = n - ((95 - w) % 64 + 1)} (omega arith)
        ∙ ap (λ (x : ℕ). (95 - x) % 64) (sym (mod-eq-sub-mod {n = n} {m = (95 - w) % 64 + 1} (omega arith)))
        ∙ ap (place w) (omega arith)
    go (no e) d f g =
        ap (random_steps w n) (step_off w r e)
        ∙ g (omega arith)
        ∙ ap (place w) (one_less n _ _ (one_down w r hw hr e))

-- what `field` has read of a stored register, as its six bits
pub six_of : {f x y : ℕ} → f ≡ field_of x 5 0 → x ≡ y → f ≡ field_of y 5 0
six_of e h = e ∙ ap (λ (x : ℕ). field_of x 5 0) h

pub cycle_below : (k w : ℕ) → k % ((95 - w) % 64 + 1) ≤ 95
cycle_below k w = omega (arith, mod-lt k {m = (95 - w) % 64 + 1} (omega arith))

-- the same on the record, with Wired and Random as the code has read them
module _ (c : Cop0) (w r : ℕ) (ew : w ≡ wired_of c) (er : r ≡ random_of c) where
  pub reloads : r ≡ w → with_reg c Random 31 ≡ tick_random_of c
  unfolding tick_random_of
  reloads e = rw (← ew, ← er, step_at w r e)

  pub falls : (r ≡ w → ⊥) → with_reg c Random ((r + 63) % 64) ≡ tick_random_of c
  unfolding tick_random_of
  falls e = rw (← ew, ← er, step_off w r e)

  pub walks : (n : ℕ) → n ≤ (r + 64 - w) % 64 → with_reg c Random ((r + 64 - n) % 64) ≡ tick_random_by_of c n
  unfolding tick_random_by_of
  walks n h = rw (← ew, ← er, near w r n (omega arith) (omega arith) h)

  pub cycles : (n : ℕ) → (r + 64 - w) % 64 < n → with_reg c Random (place w (n - (r + 64 - w) % 64 - 1)) ≡ tick_random_by_of c n
  unfolding tick_random_by_of
  cycles n h = rw (← ew, ← er, far w r n (omega arith) (omega arith) h)
