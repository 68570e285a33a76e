-- What a line with a name asks.
use Rattle.std.specs.Prelude.{ℕ, Bool, false, ◌||◌, cond, List, [], ◌∷◌, length, map, slice_index, eqb, ltb, Option, Some, None, Result, Ok, Err}
use Rattle.replay.specs.declared.operand.Operands.{Operands}
use Rattle.replay.specs.declared.row.Row.{Row}
use Rattle.replay.specs.declared.request.Call.{Call}
use Rattle.replay.specs.declared.request.Fault.{Fault}
use Rattle.replay.specs.declared.request.Fault.TheVariants.{UnknownOperation, OperandCount, BadNumber, OutOfRange}

-- the greatest A of an exception: a flag where it may be a store, 8 bits where it has a coprocessor's unit, and else nothing
abbrev pub greatest_a_of : ℕ → ℕ
greatest_a_of exc = cond (eqb exc 1 || eqb exc 10 || eqb exc 11) 1 (cond (eqb exc 7 || eqb exc 8) 0xff 0)

-- its greatest B: a flag where a refill may be wide, and else nothing
abbrev pub greatest_b_of : ℕ → ℕ
greatest_b_of exc = cond (eqb exc 10) 1 0

-- the greatest number that an operand of a letter may be, on a line whose first operand is exc: `f` (102), `m` (109), `v` (118),
-- `e` (101), `b` (98), `w` (119), `A` (65), `B` (66), and any other
abbrev pub greatest_of : ℕ → ℕ → ℕ
greatest_of exc letter =
    cond (eqb letter 102) 1
    (cond (eqb letter 109) 2
    (cond (eqb letter 118) 3
    (cond (eqb letter 101) 0xd
    (cond (eqb letter 98) 0xff
    (cond (eqb letter 119) 0xffffffff
    (cond (eqb letter 65) (greatest_a_of exc)
    (cond (eqb letter 66) (greatest_b_of exc) 0xffffffffffffffff)))))))

-- whether a number is over its limit
unfoldable pub over : List ℕ → List ℕ → Bool
over [] values = false
over (l ∷ limits) [] = false
over (l ∷ limits) (v ∷ values) = ltb l v || over limits values

-- the limits of a row's operands, on a line of these numbers
abbrev pub limits_of : List ℕ → List ℕ → List ℕ
limits_of letters values = map (greatest_of (slice_index values 0)) letters

-- the operation, if its operands are all numbers and none is over its limit
abbrev pub ranged_of : Row → Option (List ℕ) → Result Call Fault
ranged_of row None = Err BadNumber
ranged_of row (Some values) =
    cond (over (limits_of row.letters.now values) values)
    (Err OutOfRange)
    (Ok (record { part = row.part; arm = row.arm; values = values }))

-- the checks in their order, each over the whole line
abbrev pub checked_of : Option Row → Operands → Result Call Fault
checked_of None args = Err UnknownOperation
checked_of (Some row) args = cond (eqb args.count (length row.letters.now)) (ranged_of row args.values) (Err OperandCount)
