-- The lines of a text, and the words of a line.
use Rattle.std.specs.Prelude.{ℕ, ◌+◌, ◌-◌, Bool, not, ◌||◌, cond, List, [], ◌∷◌, length, take, drop, eqb}
use Rattle.std.specs.Cmp.Lexicographic.{pointwise}
use Rattle.std.specs.List.{take_while}

-- the byte that ends a line
abbrev pub line_end_of : ℕ → Bool
line_end_of b = eqb b 10

-- what stands before a text's first line end, or all where there is none
abbrev pub unended_of : List ℕ → List ℕ
unended_of text = take_while (λ b. not (line_end_of b)) text

-- a text's first line, with its end
abbrev pub first_line : List ℕ → List ℕ
first_line text = take (length (unended_of text) + 1) text

-- and what stands after that
abbrev pub past_line : List ℕ → List ℕ
past_line text = drop (length (unended_of text) + 1) text

-- whether a byte is a line's last
abbrev pub ends_in : ℕ → List ℕ → Bool
ends_in b line = pointwise eqb (drop (length line - 1) line) (b ∷ [])

-- a line without its last byte
abbrev pub but_last : List ℕ → List ℕ
but_last line = take (length line - 1) line

-- a line without its `\n` (10), and without a `\r` (13) right before that
unfoldable pub without_end_of : List ℕ → List ℕ
without_end_of line = cond (ends_in 10 line) (cond (ends_in 13 (but_last line)) (but_last (but_last line)) (but_last line)) line

-- a space or a tab
abbrev pub blank_of : ℕ → Bool
blank_of b = eqb b 32 || eqb b 9

-- the blanks that a line begins with
abbrev pub blanks_of : List ℕ → List ℕ
blanks_of line = take_while blank_of line

-- what stands before a line's first blank, or all where there is none
abbrev pub unbroken_of : List ℕ → List ℕ
unbroken_of line = take_while (λ b. not (blank_of b)) line

-- a line from its first word on
abbrev pub from_word : List ℕ → List ℕ
from_word line = drop (length (blanks_of line)) line

-- its first word
abbrev pub first_word : List ℕ → List ℕ
first_word line = unbroken_of (from_word line)

-- and what stands after that
abbrev pub past_word : List ℕ → List ℕ
past_word line = drop (length (first_word line)) (from_word line)
