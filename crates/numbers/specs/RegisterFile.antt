-- P9, P10 and P11: Random's steps and the timer's edges.
use Rattle.std.specs.Prelude.{List, [], ◌∷◌, ℕ, ◌-◌, ◌^◌}
use Rattle.cop0.specs.declared.registers.Cop0.{Cop0}
use Rattle.cop0.specs.Registers.{Random, Wired, Count, Compare}
use Rattle.cop0.specs.Record.{with_reg, fresh}
use Rattle.cop0.specs.Random.{random_of, tick_random_by_of}
use Rattle.cop0.specs.Access.{mtc0_of}
use Rattle.cop0.specs.Advance.{advance_told, advance_of}
use Rattle.numbers.specs.Table.{NumberRow, row, number, answer}

-- Random after n steps, from a Random and a Wired
abbrev stepped : ℕ → ℕ → ℕ → List ℕ
stepped random wired n = number (random_of (tick_random_by_of (with_reg (with_reg fresh Random random) Wired wired) n))

-- a register file with a Count and a Compare, written by MTC0
abbrev timed : ℕ → ℕ → Cop0
timed count compare = mtc0_of (mtc0_of fresh Count count) Compare compare

abbrev no_edge : List ℕ
no_edge = 0 ∷ 0 ∷ []

abbrev an_edge : List ℕ
an_edge = 0 ∷ 1 ∷ []

abbrev pub p9 : List NumberRow
p9 = row (stepped 31 10 21) (number 10) ∷ row (stepped 31 10 22) (number 31) ∷ row (stepped 5 10 6) (number 63) ∷ []

abbrev pub p10 : List NumberRow
p10 =
    row (answer (advance_told (timed 0xFFFF_FFFE 1) 2 0)) no_edge
    ∷ row (answer (advance_told (advance_of (timed 0xFFFF_FFFE 1) 2 0) 1 0)) an_edge
    ∷ []

abbrev pub p11 : List NumberRow
p11 =
    row (answer (advance_told (timed 7 7) (2 ^ 32 - 1) 0)) no_edge
    ∷ row (answer (advance_told (advance_of (timed 7 7) (2 ^ 32 - 1) 0) 1 0)) an_edge
    ∷ []
