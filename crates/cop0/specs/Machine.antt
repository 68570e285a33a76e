-- A machine that moves Count one tick and Random one step at a time, and raises the timer's pending bit on the tick where
-- Count becomes Compare.
use Rattle.std.specs.Prelude.{◌≡◌, ℕ, zero, suc, ◌+◌, ◌%◌, ◌^◌, ◌<◌, Bool, length, ◌==◌}
use Rattle.bits.specs.Field.{bit}
use Rattle.cop0.specs.declared.registers.Cop0.{Cop0}
use Rattle.cop0.specs.Registers.{Random}
use Rattle.cop0.specs.Record.{reg, with_now, with_reg}
use Rattle.cop0.specs.Clock.{count_of, compare_of, asked}
use Rattle.cop0.specs.Random.{random_of, tick_random_of}
use Rattle.cop0.specs.Advance.{raised_if}

-- the clock one count on, the timer having seen the new Count
abbrev pub ticked : Cop0 → Cop0
ticked c = asked (with_now c ((c.now + 1) % 2 ^ 64))

-- on this tick Count becomes Compare
abbrev pub becomes : Cop0 → Bool
becomes c = count_of (ticked c) == compare_of c

unfoldable pub one_tick : Cop0 → Cop0
one_tick c = raised_if (becomes c) (ticked c)

unfoldable pub ticks : ℕ → Cop0 → Cop0
ticks zero c = c
ticks (suc n) c = ticks n (one_tick c)

-- the ticks of n on which Count becomes Compare
unfoldable pub edges : ℕ → Cop0 → ℕ
edges zero c = 0
edges (suc n) c = bit (becomes c) + edges n (one_tick c)

unfoldable pub steps : ℕ → Cop0 → Cop0
steps zero c = c
steps (suc n) c = steps n (tick_random_of c)

-- Random has six bits. Every operation stores them alone; a record that a caller builds may hold more there.
unfoldable pub six_bit : Cop0 → Cop0
six_bit c = with_reg c Random (random_of c)

-- a record that the type holds, whose last-asked Count is its Count: what the clock's theorem asks
pub record Kept (c : Cop0) : Type 0 where
  pub clock : c.now < 2 ^ 64
  pub file : length c.regs ≡ 32
  pub mark : c.last_count ≡ count_of c

-- and whose Random is six bits: what every operation of a session leaves
pub record Steady (c : Cop0) : Type 0 where
  pub kept : Kept c
  pub random : reg c Random < 2 ^ 6
