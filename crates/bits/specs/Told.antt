-- An answer as the scope (document 01) numbers it: each enum that is an answer has one definition into `Told`.
use Rattle.std.specs.Prelude.{ℕ, Bool, true, false, ◌&&◌, List, [], ◌∷◌, ◌==◌}

pub record Told : Type 0 where
  pub number : ℕ
  pub values : List ℕ

-- number 0: a proper answer, with its values
abbrev pub answered : List ℕ → Told
answered vs = record { number = 0; values = vs }

-- a refusal gives its number alone ("What is turned away")
abbrev pub refused : ℕ → Told
refused n = record { number = n; values = [] }

-- whether two lists of values are the same: a test, so that tables of answers can be computed
abbrev pub equal : List ℕ → List ℕ → Bool
equal [] [] = true
equal [] (y ∷ ys) = false
equal (x ∷ xs) [] = false
equal (x ∷ xs) (y ∷ ys) = x == y && equal xs ys
