-- An access to a line of the data cache, of 16 bytes (11.2).
use Rattle.std.specs.Prelude.{◌&&◌, cond, ℕ, ◌+◌, ◌%◌, leb, Result, Ok, Err}
use Rattle.lines.specs.declared.access.Refusal.{Refusal}
use Rattle.lines.specs.declared.access.Refusal.TheVariants.{Length, Crossing}

-- refusals 2 and 3: a length of 0 or over 8; offset + length over 16. 0 where there is none
unfoldable pub access_refusal : ℕ → ℕ → ℕ
access_refusal a len = cond (leb 1 len && leb len 8) (cond (leb (a % 16 + len) 16) 0 3) 2

-- the number of a refusal, and of what a check answers
abbrev pub refusal_number : Refusal → ℕ
refusal_number Length = 2
refusal_number Crossing = 3

abbrev pub check_number : Result (Unit {0}) Refusal → ℕ
check_number (Ok u) = 0
check_number (Err r) = refusal_number r
