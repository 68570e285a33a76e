-- Rows of a table: what a definition computes, and what the scope (document 01) expects.
use Rattle.std.specs.Prelude.{Bool, true, ◌&&◌, List, [], ◌∷◌, ℕ}
use Rattle.bits.specs.Told.{Told, equal}

pub record NumberRow : Type 0 where
  pub computed : List ℕ
  pub expected : List ℕ

abbrev pub row : List ℕ → List ℕ → NumberRow
row c e = record { computed = c; expected = e }

-- one number
abbrev pub number : ℕ → List ℕ
number n = n ∷ []

-- an answer: its number, and then its values
abbrev pub answer : Told → List ℕ
answer t = t.number ∷ t.values

-- every row holds
abbrev pub all : List NumberRow → Bool
all [] = true
all (r ∷ rs) = equal r.computed r.expected && all rs
