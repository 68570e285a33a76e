-- Count, Compare and the timer (6.3.3, 6.3.4).
use Rattle.std.specs.Prelude.{ℕ, ◌+◌, ◌-◌, ◌%◌, ◌^◌, Bool, cond, ◌&&◌, ◌==◌, nat_le}
use Rattle.bits.specs.Extension.{low32_of}
use Rattle.cop0.specs.declared.registers.Cop0.{Cop0}
use Rattle.cop0.specs.declared.clock.Polled.{Polled}
use Rattle.cop0.specs.Registers.{Compare}
use Rattle.cop0.specs.Record.{reg, with_last_count}

-- a less b modulo 2 ^ k, for b up to 2 ^ k
abbrev pub less : ℕ → ℕ → ℕ → ℕ
less k a b = (a + (2 ^ k - b)) % 2 ^ k

-- Count at a clock: the epoch's value plus the counts since its tick
abbrev pub count_at : ℕ → ℕ → ℕ → ℕ
count_at now value tick = (value + less 64 now tick) % 2 ^ 32

abbrev pub count_of : Cop0 → ℕ
count_of c = count_at c.now c.count_epoch_value c.count_epoch_tick

abbrev pub compare_of : Cop0 → ℕ
compare_of c = low32_of (reg c Compare)

abbrev pub timer_matches_of : Cop0 → Bool
timer_matches_of c = count_of c == compare_of c

-- the counts since last asked, and the distance from the last-asked Count to Compare
abbrev pub since_asked : Cop0 → ℕ
since_asked c = less 32 (count_of c) c.last_count

abbrev pub to_compare : Cop0 → ℕ
to_compare c = less 32 (compare_of c) c.last_count

-- an edge: 1 ≤ the distance ≤ the counts since last asked
unfoldable pub edge_of : Cop0 → Bool
edge_of c = nat_le 1 (to_compare c) && nat_le (to_compare c) (since_asked c)

-- the last-asked mark moved to the present Count
unfoldable pub asked : Cop0 → Cop0
asked c = with_last_count c (count_of c)

unfoldable pub polled_of : Cop0 → Polled
polled_of c = record { edge = edge_of c; cop0 = asked c }

-- the distance to Compare, or 2^32 - 1 where it is 0
unfoldable pub ticks_until_match_of : Cop0 → ℕ
ticks_until_match_of c = cond (to_compare c == 0) (2 ^ 32 - 1) (to_compare c)
