-- The number and the values of each answer.
use Rattle.std.specs.Prelude.{ℕ, [], ◌∷◌, Option, Some, None}
use Rattle.bits.specs.Told.{Told, answered}

-- no digit, or no number, is an answer without a value: the scope numbers no refusal here
abbrev pub told_digit : Option ℕ → Told
told_digit (Some v) = answered (v ∷ [])
told_digit None = answered []

abbrev pub told_number : Option ℕ → Told
told_number n = told_digit n
