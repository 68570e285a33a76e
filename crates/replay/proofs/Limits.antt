-- A number is over its limit where a pair of its letter and the number says so.
use Rattle.std.proofs.Common.{◌≡◌, ℕ, Bool, List, [], ◌∷◌, map, ltb, ◌||◌, ap, refl}
use Rattle.std.specs.List.{list_any, zip}
use Rattle.replay.specs.Request.{greatest_of, over}

module _ (exc : ℕ) where
  -- whether a number is over the limit of its letter
  abbrev pub is_over : ℕ × ℕ → Bool
  is_over p = ltb (greatest_of exc p.0) p.1

  pub over_pairs : (letters values : List ℕ) → list_any is_over (zip letters values) ≡ over (map (greatest_of exc) letters) values
  unfolding over
  over_pairs [] values = refl
  over_pairs (l ∷ letters) [] = refl
  over_pairs (l ∷ letters) (v ∷ values) = ap (λ b. is_over (l, v) || b) (over_pairs letters values)
