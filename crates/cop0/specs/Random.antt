-- Random, a six-bit counter between 31 and Wired (5.4.2).
use Rattle.std.specs.Prelude.{ℕ, zero, suc, ◌+◌, ◌%◌, cond, ◌==◌}
use Rattle.bits.specs.Field.{field_of}
use Rattle.cop0.specs.declared.registers.Cop0.{Cop0}
use Rattle.cop0.specs.Registers.{Random, Wired}
use Rattle.cop0.specs.Record.{reg, with_reg}

-- both registers hold their number in bits 5..0
abbrev pub random_of : Cop0 → ℕ
random_of c = field_of (reg c Random) 5 0

abbrev pub wired_of : Cop0 → ℕ
wired_of c = field_of (reg c Wired) 5 0

-- one step: at Wired Random becomes 31, else it falls by one modulo 64
unfoldable pub random_step : ℕ → ℕ → ℕ
random_step wired random = cond (random == wired) 31 ((random + 63) % 64)

-- n steps
unfoldable pub random_steps : ℕ → ℕ → ℕ → ℕ
random_steps wired zero random = random
random_steps wired (suc n) random = random_steps wired n (random_step wired random)

unfoldable pub tick_random_of : Cop0 → Cop0
tick_random_of c = with_reg c Random (random_step (wired_of c) (random_of c))

unfoldable pub tick_random_by_of : Cop0 → ℕ → Cop0
tick_random_by_of c n = with_reg c Random (random_steps (wired_of c) n (random_of c))
