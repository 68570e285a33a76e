-- 32 bits in a 64-bit word.
use Rattle.std.specs.Prelude.{ℕ, ◌+◌, ◌-◌, ◌%◌, ◌^◌, cond, nat_lt}

-- the low 32 bits of a word
abbrev pub low32_of : ℕ → ℕ
low32_of x = x % 2 ^ 32

-- 32 bits as a signed number, in 64 bits: from 2^31 up it stands for itself less 2^32
abbrev pub sign_extended : ℕ → ℕ
sign_extended x = cond (nat_lt x (2 ^ 31)) x (x + (2 ^ 64 - 2 ^ 32))

-- 32 bits as an unsigned number, in 64 bits
abbrev pub zero_extended : ℕ → ℕ
zero_extended x = x
