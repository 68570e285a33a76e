-- Where the line of an address is, over the size of a line: 16 bytes in the data cache, 32 in the instruction cache (11.2).
use Rattle.std.specs.Prelude.{Bool, List, ℕ, ◌+◌, ◌*◌, ◌/◌, ◌%◌, eqb, length, get_or, set}
use Rattle.tags.specs.Words.{word_tag}

-- which of the 512 lines
abbrev pub index_of : ℕ → ℕ → ℕ
index_of size a = a / size % 512

-- the place of its first byte in the lent buffer, and of the address's own
abbrev pub start_of : ℕ → ℕ → ℕ
start_of size a = index_of size a * size

abbrev pub place_of : ℕ → ℕ → ℕ
place_of size a = start_of size a + a % size

-- the tag array has 512 words
abbrev pub tagged : List ℕ → Bool
tagged ws = eqb (length ws) 512

-- the tag word of a line, and of the line of an address
abbrev pub word_at : List ℕ → ℕ → ℕ
word_at ws i = get_or ws i 0

abbrev pub word_for : ℕ → List ℕ → ℕ → ℕ
word_for size ws a = word_at ws (index_of size a)

-- the line's word replaced, and all others as they were
abbrev pub tags_with : ℕ → List ℕ → ℕ → ℕ → List ℕ
tags_with size ws a w = set ws (index_of size a) w

-- the address that a line with this word came from: tag × 4096 plus the line's offset within 4096
abbrev pub resident_of : ℕ → ℕ → ℕ
resident_of w start = word_tag w * 4096 + start % 4096
