-- A field of a word, as the manual's figures draw it: bits hi..lo, bit 0 the lowest.
use Rattle.std.specs.Prelude.{ℕ, ◌+◌, ◌-◌, ◌*◌, ◌/◌, ◌%◌, ◌^◌, Bool, true, false, cond, ◌&&◌, nat_le}

-- bits hi..lo of x, as a number
abbrev pub field_of : ℕ → ℕ → ℕ → ℕ
field_of x hi lo = x / 2 ^ lo % 2 ^ (hi + 1 - lo)

-- a flag as a bit
abbrev pub bit : Bool → ℕ
bit true = 1
bit false = 0

-- hi..lo is a part of a 64-bit word
abbrev pub in_word : ℕ → ℕ → Bool
in_word hi lo = nat_le lo hi && nat_le hi 63

-- x above bit hi, the low bits of v at hi..lo, x below bit lo; x itself where hi..lo is no part of a word
unfoldable pub with_field_of : ℕ → ℕ → ℕ → ℕ → ℕ
with_field_of x hi lo v =
    cond (in_word hi lo) (x / 2 ^ (hi + 1) * 2 ^ (hi + 1) + v % 2 ^ (hi + 1 - lo) * 2 ^ lo + x % 2 ^ lo) x
