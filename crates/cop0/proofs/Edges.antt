-- Whether Compare lies within the next n counts, as n grows.
use Rattle.std.proofs.Common.{◌≡◌, ℕ, suc, ◌+◌, ◌-◌, ◌%◌, ◌^◌, ◌<◌, ◌≤◌, Bool, true, false, ◌&&◌, leb, sym, ap, ◌∙◌, arith, le-leb}
use mathlib.Core.Bool.{and-false}
use native.Mathlib.Nat.{mod-add-mod}
use native.Mathlib.Decide.{dec_le, ℕ_discrete}
use borrow.Author.Tests.{lt-leb}
use Rattle.cop0.specs.Clock.{less, count_at}

abbrev pub edge_in : ℕ → ℕ → Bool
edge_in d n = leb 1 d && leb d n

edge_yes : (d n : ℕ) → 1 ≤ d → d ≤ n → edge_in d n ≡ true
edge_yes d n h l = simp (le-leb 1 d h, le-leb d n l)

edge_none : (d n : ℕ) → d < 1 → edge_in d n ≡ false
edge_none d n h = simp (lt-leb 1 d h)

edge_far : (d n : ℕ) → n < d → edge_in d n ≡ false
edge_far d n h = simp (lt-leb d n h) (and-false (leb 1 d))

pub edge_start : (d : ℕ) → edge_in d 0 ≡ false
edge_start d = go (dec_le 1 d)
  where
    go : Dec (1 ≤ d) → edge_in d 0 ≡ false
    go (yes h) = edge_far d 0 h
    go (no h) = edge_none d 0 (omega arith)

-- the tick on which Count becomes Compare is the only edge: none follows it within fewer than 2^32
pub hit_after : (cnt cmp n : ℕ) → cmp < 2 ^ 32 → (cnt + 1) % 2 ^ 32 ≡ cmp
    → edge_in (less 32 cmp ((cnt + 1) % 2 ^ 32)) n ≡ false
hit_after cnt cmp n h e = edge_none (less 32 cmp ((cnt + 1) % 2 ^ 32)) n (omega arith)

pub hit_before : (cnt cmp n : ℕ) → cnt < 2 ^ 32 → cmp < 2 ^ 32 → (cnt + 1) % 2 ^ 32 ≡ cmp
    → edge_in (less 32 cmp cnt) (suc n) ≡ true
hit_before cnt cmp n h₁ h₂ e = edge_yes (less 32 cmp cnt) (suc n) (omega arith) (omega arith)

-- a tick on which it does not leaves the question to the ticks after it
pub miss : (cnt cmp n : ℕ)
    → cnt < 2 ^ 32
    → cmp < 2 ^ 32
    → suc n < 2 ^ 32
    → ((cnt + 1) % 2 ^ 32 ≡ cmp → ⊥)
    → edge_in (less 32 cmp ((cnt + 1) % 2 ^ 32)) n ≡ edge_in (less 32 cmp cnt) (suc n)
miss cnt cmp n h₁ h₂ h₃ e = go (ℕ_discrete cnt cmp) (dec_le (less 32 cmp ((cnt + 1) % 2 ^ 32)) n)
  where
    go : Dec (cnt ≡ cmp)
        → Dec (less 32 cmp ((cnt + 1) % 2 ^ 32) ≤ n)
        → edge_in (less 32 cmp ((cnt + 1) % 2 ^ 32)) n ≡ edge_in (less 32 cmp cnt) (suc n)
    go (yes s) l =
        edge_far (less 32 cmp ((cnt + 1) % 2 ^ 32)) n (omega arith) ∙ sym (edge_none (less 32 cmp cnt) (suc n) (omega arith))
    go (no s) (yes l) =
        edge_yes (less 32 cmp ((cnt + 1) % 2 ^ 32)) n (omega arith) l
        ∙ sym (edge_yes (less 32 cmp cnt) (suc n) (omega arith) (omega arith))
    go (no s) (no l) =
        edge_far (less 32 cmp ((cnt + 1) % 2 ^ 32)) n (omega arith) ∙ sym (edge_far (less 32 cmp cnt) (suc n) (omega arith))

low : (v x : ℕ) → (v + x % 2 ^ 64) % 2 ^ 32 ≡ (v + x) % 2 ^ 32
low v x = omega arith

-- Count moves with the clock
pub count_moves : (t v k n : ℕ) → count_at ((t + n) % 2 ^ 64) v k ≡ (count_at t v k + n) % 2 ^ 32
count_moves t v k n =
    low v ((t + n) % 2 ^ 64 + (2 ^ 64 - k))
    ∙ up v t n (2 ^ 64 - k)
    ∙ sym (mod-add-mod (v + (t + (2 ^ 64 - k))) (2 ^ 32) n)
    ∙ ap (λ (x : ℕ). (x + n) % 2 ^ 32) (sym (low v (t + (2 ^ 64 - k))))
  where
    up : (v t n j : ℕ) → (v + ((t + n) % 2 ^ 64 + j)) % 2 ^ 32 ≡ (v + (t + j) + n) % 2 ^ 32
    up v t n j = omega arith
