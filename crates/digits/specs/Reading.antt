-- Hexadecimal digits, and the number that a word of them writes.
use Rattle.std.specs.Prelude.{Bool, true, ◌&&◌, ◌||◌, cond, List, [], ◌∷◌, ℕ, ◌+◌, ◌-◌, ◌*◌, ◌^◌, leb, length}
use Rattle.bits.specs.Told.{Told, answered}

-- is n from `first` to `last`, both inside?
unfoldable pub within : ℕ → ℕ → ℕ → Bool
within first last n = leb first n && leb n last

-- the bytes 0 to 9, A to F and a to f
unfoldable pub is_digit : ℕ → Bool
is_digit b = within 48 57 b || within 65 70 b || within 97 102 b

-- what a digit is worth: the letters go on from 10
unfoldable pub worth : ℕ → ℕ
worth b = cond (within 48 57 b) (b - 48) (cond (within 65 70 b) (b - 65 + 10) (b - 97 + 10))

unfoldable pub digit_told : ℕ → Told
digit_told b = cond (is_digit b) (answered (worth b ∷ [])) (answered [])

unfoldable pub all_digits : List ℕ → Bool
all_digits [] = true
all_digits (b ∷ bs) = is_digit b && all_digits bs

-- the first digit is the highest: it counts 16 to the number of digits after it
unfoldable pub value_of : List ℕ → ℕ
value_of [] = 0
value_of (b ∷ bs) = worth b * 16 ^ length bs + value_of bs

-- 1 to 16 digits
unfoldable pub number_told : List ℕ → Told
number_told word = cond (within 1 16 (length word) && all_digits word) (answered (value_of word ∷ [])) (answered [])
