-- Enums cross as numbers: their cases in order, from 0. A number past the last case names none, and is refused.
use Rattle.std.specs.Prelude.{ℕ, Bool, cond, List, length, nat_lt}
use Rattle.bits.specs.Told.{Told, answered, refused}

-- the refusal of a number that names nothing
abbrev pub unknown : ℕ
unknown = 255

-- does n name one of these cases?
abbrev pub names : {A : Type 0} → List A → ℕ → Bool
names xs n = nat_lt n (length xs)

-- the values that are told where it does
abbrev pub if_named : Bool → List ℕ → Told
if_named b vs = cond b (answered vs) (refused unknown)
