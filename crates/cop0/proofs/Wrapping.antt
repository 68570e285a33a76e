-- Wrapping arithmetic.
use Rattle.std.proofs.Common.{◌≡◌, ℕ, ◌+◌, ◌-◌, ◌%◌, ◌^◌, ◌<◌, sym, ap, ◌∙◌, le_of_lt, add_assoc, mod-eq_of_lt, add-sub_of_le}
use native.Mathlib.Nat.{mod-add-mod, add-mod_right}
use Rattle.cop0.specs.Clock.{less}

-- what std's `wrapping_sub` promises of its result, as an equation for it, at every width
pub difference : (k r a b : ℕ) → r < 2 ^ k → b < 2 ^ k → (r + b) % 2 ^ k ≡ a → r ≡ less k a b
difference k r a b hr hb e =
    sym (mod-eq_of_lt hr)
    ∙ sym (add-mod_right r (2 ^ k))
    ∙ ap (λ (x : ℕ). (r + x) % 2 ^ k) (sym (add-sub_of_le (le_of_lt hb)))
    ∙ ap (λ (x : ℕ). x % 2 ^ k) (sym (add_assoc r b (2 ^ k - b)))
    ∙ sym (mod-add-mod (r + b) (2 ^ k) (2 ^ k - b))
    ∙ ap (λ (x : ℕ). (x + (2 ^ k - b)) % 2 ^ k) e
