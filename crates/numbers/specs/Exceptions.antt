-- P7 and P8: a nested refill's vector, and EPC in a delay slot.
use Rattle.std.specs.Prelude.{true, false, List, [], ◌∷◌, ℕ}
use Rattle.cop0.specs.declared.registers.Cop0.{Cop0}
use Rattle.cop0.specs.Registers.{Status, EPC}
use Rattle.cop0.specs.Record.{fresh}
use Rattle.cop0.specs.File.{read_of}
use Rattle.cop0.specs.Access.{mtc0_of}
use Rattle.exception.specs.declared.kinds.Exception.TheVariants.{Interrupt, TlbRefill}
use Rattle.exception.specs.Taking.{dispatch_of}
use Rattle.numbers.specs.Table.{NumberRow, row, number}

-- a register file with a Status, written by MTC0
abbrev in_status : ℕ → Cop0
in_status s = mtc0_of fresh Status s

-- for a narrow address and for a wide one
abbrev pub p7 : List NumberRow
p7 =
    row (number (dispatch_of (in_status 2) (TlbRefill false false) 0 false 0).dispatch.vector) (number 0xFFFF_FFFF_8000_0180)
    ∷ row (number (dispatch_of (in_status 2) (TlbRefill false true) 0 false 0).dispatch.vector) (number 0xFFFF_FFFF_8000_0180)
    ∷ []

abbrev pub p8 : List NumberRow
p8 = row (number (read_of (dispatch_of (in_status 0) Interrupt 0 true 0).cop0 EPC)) (number 0xFFFF_FFFF_FFFF_FFFC) ∷ []
