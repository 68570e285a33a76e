-- Tag words (document 01): bits 19..0 the tag, bit 20 valid, bit 21 dirty. TagLo (figures 5-19 and 5-20): PTagLo 27..8, PState 7..6.
use Rattle.std.specs.Prelude.{Bool, false, ◌&&◌, not, cond, ℕ, ◌+◌, ◌*◌, ◌/◌, ◌^◌, eqb}
use Rattle.bits.specs.Field.{field_of, bit}

-- the tag of an address: its 4 KiB frame
abbrev pub tag_of : ℕ → ℕ
tag_of a = a / 4096

abbrev pub word_tag : ℕ → ℕ
word_tag w = field_of w 19 0

abbrev pub is_valid : ℕ → Bool
is_valid w = eqb (field_of w 20 20) 1

abbrev pub is_dirty : ℕ → Bool
is_dirty w = eqb (field_of w 21 21) 1

-- a word as it is written: other bits are zero
abbrev pub word_of : ℕ → Bool → Bool → ℕ
word_of t v d = t + bit v * 2 ^ 20 + bit d * 2 ^ 21

-- a valid line with the address's tag
unfoldable pub hit_of : ℕ → ℕ → Bool
hit_of w a = is_valid w && eqb (word_tag w) (tag_of a)

-- valid and dirty: the line has bytes that memory does not
unfoldable pub leaves_of : ℕ → Bool
leaves_of w = is_valid w && is_dirty w

-- a line that leaves for another address
unfoldable pub displaced_of : ℕ → ℕ → Bool
displaced_of w a = leaves_of w && not (eqb (word_tag w) (tag_of a))

-- valid cleared, and dirty with it; the tag stays
abbrev pub invalidated : ℕ → ℕ
invalidated w = word_of (word_tag w) false false

-- a flush: invalidate clears both flags, clean the dirty one
abbrev pub flushed_word : ℕ → Bool → Bool → ℕ
flushed_word w invalidate clean = cond invalidate (invalidated w) (cond clean (word_of (word_tag w) (is_valid w) false) w)

-- TagLo of a line; state is the PState of a valid line: 3 in the data cache, 2 in the instruction cache
unfoldable pub tag_lo_of : ℕ → ℕ → ℕ
tag_lo_of state w = word_tag w * 2 ^ 8 + cond (is_valid w) state 0 * 2 ^ 6

-- and the word that a TagLo stores; dirty has no place in TagLo
unfoldable pub stored_of : ℕ → ℕ → ℕ
stored_of state t = word_of (field_of t 27 8) (eqb (field_of t 7 6) state) false
