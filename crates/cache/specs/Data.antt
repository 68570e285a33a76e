-- The data cache: 512 lines of 16 bytes, written back; a valid line has PState 3 (11.2, figure 5-19).
use Rattle.std.specs.Prelude.{Bool, true, ◌&&◌, not, cond, List, [], ◌∷◌, ℕ, eqb, length, take, drop}
use Rattle.std.proofs.Math.Seq.{paste}
use Rattle.bits.specs.Told.{Told, answered, refused}
use Rattle.tags.specs.Words.{tag_of, word_tag, is_valid, word_of, hit_of, leaves_of, displaced_of, flushed_word}
use Rattle.tags.specs.Places.{start_of, place_of, word_for, tags_with, resident_of}
use Rattle.lines.specs.Access.{access_refusal}
use Rattle.lines.specs.Bytes.{big_endian, bytes_of}
use Rattle.cache.specs.Answers.{nothing}
use Rattle.cache.specs.Both.{sized, evicted_if, bytes_if}

abbrev pub fits : List ℕ → List ℕ → Bool
fits ls ws = sized 8192 ls ws

abbrev pub word : List ℕ → ℕ → ℕ
word ws a = word_for 16 ws a

abbrev pub leaves : List ℕ → ℕ → Bool
leaves ws a = leaves_of (word ws a)

-- a hit is 0, a fill 1, and a line that leaves first 2 with its address
unfoldable pub planned_of : ℕ → ℕ → ℕ → Told
planned_of w a start =
    cond (hit_of w a) (answered (0 ∷ []))
    (cond (leaves_of w) (answered (2 ∷ resident_of w start ∷ []))
    (answered (1 ∷ [])))

unfoldable pub plan_told : List ℕ → List ℕ → ℕ → Told
plan_told ls ws a = cond (fits ls ws) (planned_of (word ws a) a (start_of 16 a)) (refused 1)

-- a line that must leave first
unfoldable pub evicts_of : ℕ → ℕ → Bool
evicts_of w a = not (hit_of w a) && leaves_of w

unfoldable pub plan_bytes : List ℕ → List ℕ → ℕ → List ℕ
plan_bytes ls ws a = bytes_if 16 (fits ls ws && evicts_of (word ws a) a) ls (start_of 16 a)

-- the first refusal of those that apply, else an answer
abbrev pub accessed : Bool → ℕ → Told → Told
accessed fit k t = cond fit (cond (eqb k 0) t (refused k)) (refused 1)

unfoldable pub read_told : List ℕ → ℕ → ℕ → Told
read_told ls a len =
    accessed (eqb (length ls) 8192) (access_refusal a len) (answered (big_endian (take len (drop (place_of 16 a) ls)) ∷ []))

unfoldable pub write_told : List ℕ → List ℕ → ℕ → ℕ → Told
write_told ls ws a len = accessed (fits ls ws) (access_refusal a len) nothing

-- a write is not refused
abbrev pub writes : List ℕ → List ℕ → ℕ → ℕ → Bool
writes ls ws a len = fits ls ws && eqb (access_refusal a len) 0

-- the low bytes of the value, and no other byte
unfoldable pub write_bytes : List ℕ → List ℕ → ℕ → ℕ → ℕ → List ℕ
write_bytes ls ws a len v = cond (writes ls ws a len) (paste ls (place_of 16 a) (bytes_of len v) len) ls

-- dirty, valid or not
unfoldable pub write_tags : List ℕ → List ℕ → ℕ → ℕ → List ℕ
write_tags ls ws a len = cond (writes ls ws a len) (tags_with 16 ws a (word_of (word_tag (word ws a)) (is_valid (word ws a)) true)) ws

-- a line that leaves is told; invalidate clears both flags, clean the dirty one
unfoldable pub flush_told : List ℕ → List ℕ → ℕ → Told
flush_told ls ws a = cond (fits ls ws) (evicted_if (leaves ws a) (word ws a) (start_of 16 a)) (refused 1)

unfoldable pub flush_bytes : List ℕ → List ℕ → ℕ → List ℕ
flush_bytes ls ws a = bytes_if 16 (fits ls ws && leaves ws a) ls (start_of 16 a)

-- a word that stands is stored as it was: with both flags off nothing changes
unfoldable pub flush_tags : List ℕ → List ℕ → ℕ → Bool → Bool → List ℕ
flush_tags ls ws a invalidate clean = cond (fits ls ws) (tags_with 16 ws a (flushed_word (word ws a) invalidate clean)) ws

-- a line that leaves for another address
abbrev pub displaced : List ℕ → ℕ → Bool
displaced ws a = displaced_of (word ws a) a

unfoldable pub create_told : List ℕ → List ℕ → ℕ → Told
create_told ls ws a = cond (fits ls ws) (evicted_if (displaced ws a) (word ws a) (start_of 16 a)) (refused 1)

unfoldable pub create_bytes : List ℕ → List ℕ → ℕ → List ℕ
create_bytes ls ws a = bytes_if 16 (fits ls ws && displaced ws a) ls (start_of 16 a)

-- the line is the address's, valid and dirty, with the bytes that it had
unfoldable pub create_tags : List ℕ → List ℕ → ℕ → List ℕ
create_tags ls ws a = cond (fits ls ws) (tags_with 16 ws a (word_of (tag_of a) true true)) ws
