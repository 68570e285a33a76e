-- Bytes in memory order, the highest of a number first.
use Rattle.std.specs.Prelude.{Bool, ◌&&◌, cond, List, [], ◌∷◌, ℕ, ◌+◌, ◌-◌, ◌*◌, leb, length, take, drop, replicate}
use Rattle.std.proofs.Math.Seq.{paste}
use Rattle.bits.specs.Field.{field_of}

-- more bytes joined to a number at its low end
unfoldable pub joined : ℕ → List ℕ → ℕ
joined v [] = v
joined v (b ∷ bs) = joined (v * 256 + b) bs

abbrev pub big_endian : List ℕ → ℕ
big_endian bs = joined 0 bs

-- the bytes of a word, and the lowest len of them
abbrev pub eight : ℕ → List ℕ
eight v =
    field_of v 63 56
    ∷ field_of v 55 48
    ∷ field_of v 47 40
    ∷ field_of v 39 32
    ∷ field_of v 31 24
    ∷ field_of v 23 16
    ∷ field_of v 15 8
    ∷ field_of v 7 0
    ∷ []

abbrev pub bytes_of : ℕ → ℕ → List ℕ
bytes_of len v = drop (8 - len) (eight v)

-- n bytes at a place are within the lent part
abbrev pub within : List ℕ → ℕ → ℕ → Bool
within ls at n = leb (at + n) (length ls)

-- bytes copied to a place; where they are not within, nothing changes
unfoldable pub copied : List ℕ → ℕ → List ℕ → List ℕ
copied ls at bs = cond (within ls at (length bs)) (paste ls at bs (length bs)) ls

-- n bytes from a place if they are asked for, or zeros
unfoldable pub line_if : ℕ → Bool → List ℕ → ℕ → List ℕ
line_if n b ls at = cond (b && within ls at n) (take n (drop at ls)) (replicate n 0)

-- at most eight bytes as a number, or 0
unfoldable pub number_at : List ℕ → ℕ → ℕ → ℕ
number_at ls at len = cond (leb len 8 && within ls at len) (big_endian (take len (drop at ls))) 0

-- and a number's bytes copied to a place
unfoldable pub number_put : List ℕ → ℕ → ℕ → ℕ → List ℕ
number_put ls at len v = cond (leb len 8) (copied ls at (bytes_of len v)) ls
