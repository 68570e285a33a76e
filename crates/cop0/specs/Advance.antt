-- The clock advance: the clock moves forward, Random steps, the timer is asked, and an edge sets pending bit 7.
use Rattle.std.specs.Prelude.{ℕ, ◌+◌, ◌%◌, ◌^◌, Bool, true, false, cond, [], ◌∷◌, nat_lt, slice_index_or, Result, Ok, Err}
use Rattle.bits.specs.Field.{bit}
use Rattle.bits.specs.Told.{Told, answered, refused}
use Rattle.cop0.specs.declared.registers.Cop0.{Cop0}
use Rattle.cop0.specs.declared.refusal.Refusal.{Refusal}
use Rattle.cop0.specs.Refusals.{refusal_number}
use Rattle.cop0.specs.Record.{with_now}
use Rattle.cop0.specs.Interrupt.{set_ip_of}
use Rattle.cop0.specs.Clock.{edge_of, asked}
use Rattle.cop0.specs.Random.{tick_random_by_of}

-- the number and the values of each answer
abbrev pub told_advance : Result Bool Refusal → Told
told_advance (Ok e) = answered (bit e ∷ [])
told_advance (Err r) = refused (refusal_number r)

-- the clock moved forward and Random stepped
unfoldable pub moved : Cop0 → ℕ → ℕ → Cop0
moved c counts steps = tick_random_by_of (with_now c ((c.now + counts) % 2 ^ 64)) steps

-- the timer's pending bit set on an edge
abbrev pub raised_if : Bool → Cop0 → Cop0
raised_if true c = set_ip_of c 7 true
raised_if false c = c

-- refusal 5: counts from 2^32 up
unfoldable pub advance_told : Cop0 → ℕ → ℕ → Told
advance_told c counts steps = cond (nat_lt counts (2 ^ 32)) (answered (bit (edge_of (moved c counts steps)) ∷ [])) (refused 5)

unfoldable pub advance_of : Cop0 → ℕ → ℕ → Cop0
advance_of c counts steps =
    cond (nat_lt counts (2 ^ 32)) (raised_if (edge_of (moved c counts steps)) (asked (moved c counts steps))) c

-- an answer as one number: its value (0 no edge, 1 an edge), or a refusal's own number
abbrev pub code_of : Told → ℕ
code_of t = slice_index_or t.values 0 t.number

abbrev pub advance_code : Cop0 → ℕ → ℕ → ℕ
advance_code c counts steps = code_of (advance_told c counts steps)
