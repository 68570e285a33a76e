-- The instruction cache: 512 lines of 32 bytes, never dirty; a valid line has PState 2 (11.2, figure 5-20).
use Rattle.std.specs.Prelude.{Bool, ◌&&◌, cond, List, [], ◌∷◌, ℕ, ◌%◌, eqb, leb, length, take, drop}
use Rattle.bits.specs.Told.{Told, answered, refused}
use Rattle.tags.specs.Words.{hit_of, invalidated}
use Rattle.tags.specs.Places.{tagged, start_of, place_of, word_for, tags_with}
use Rattle.lines.specs.Bytes.{big_endian}
use Rattle.cache.specs.Both.{sized, evicted_if, bytes_if}

abbrev pub fits : List ℕ → List ℕ → Bool
fits ls ws = sized 16384 ls ws

abbrev pub word : List ℕ → ℕ → ℕ
word ws a = word_for 32 ws a

-- refusal 3: the word's offset is over 28
unfoldable pub word_told : List ℕ → ℕ → Told
word_told ls a =
    cond (eqb (length ls) 16384)
    (cond (leb (a % 32) 28) (answered (big_endian (take 4 (drop (place_of 32 a) ls)) ∷ [])) (refused 3))
    (refused 1)

unfoldable pub invalidate_tags : List ℕ → ℕ → List ℕ
invalidate_tags ws a = cond (tagged ws) (tags_with 32 ws a (invalidated (word ws a))) ws

-- only a line that holds the address
unfoldable pub hit_invalidate_tags : List ℕ → ℕ → List ℕ
hit_invalidate_tags ws a = cond (tagged ws) (cond (hit_of (word ws a) a) (tags_with 32 ws a (invalidated (word ws a))) ws) ws

-- a line that holds the address goes, and stays
unfoldable pub flush_told : List ℕ → List ℕ → ℕ → Told
flush_told ls ws a = cond (fits ls ws) (evicted_if (hit_of (word ws a) a) (word ws a) (start_of 32 a)) (refused 1)

unfoldable pub flush_bytes : List ℕ → List ℕ → ℕ → List ℕ
flush_bytes ls ws a = bytes_if 32 (fits ls ws && hit_of (word ws a) a) ls (start_of 32 a)
