-- A number's hexadecimal digits, in lowercase.
use Rattle.std.specs.Prelude.{Bool, ◌||◌, cond, List, [], ◌∷◌, ℕ, zero, suc, ◌+◌, ◌-◌, ◌/◌, ◌%◌, ◌^◌, leb, ltb, length}
use Rattle.std.proofs.Math.Seq.{paste}
use Rattle.digits.specs.Reading.{within}

-- the bytes 0 to 9 and a to f
unfoldable pub is_lowercase : ℕ → Bool
is_lowercase b = within 48 57 b || within 97 102 b

-- the digit of a value below 16
unfoldable pub lowercase_of : ℕ → ℕ
lowercase_of d = cond (ltb d 10) (48 + d) (97 + (d - 10))

-- the digit that counts 16 to the k
unfoldable pub place_of : ℕ → ℕ → ℕ
place_of v k = lowercase_of (v / 16 ^ k % 16)

-- the lowest digits of v, as many as the width says, the highest first
unfoldable pub digits_of : ℕ → ℕ → List ℕ
digits_of zero v = []
digits_of (suc k) v = place_of v k ∷ digits_of k v

-- that many bytes at a place are within the lent part
unfoldable pub has_room : List ℕ → ℕ → ℕ → Bool
has_room out at width = leb (at + width) (length out)

-- the digits at a place, and all else as it was; without room nothing changes
unfoldable pub put_of : List ℕ → ℕ → ℕ → ℕ → List ℕ
put_of out at width v = cond (has_room out at width) (paste out at (digits_of width v) width) out
