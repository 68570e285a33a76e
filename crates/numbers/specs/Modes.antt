-- Q2, the numbers of document 02's second request: with ERL a Status that MTC0 has written asks for kernel mode, whatever KSU says, and for
-- KX's width; KSU 3 is refused without it.
use Rattle.std.specs.Prelude.{List, [], ◌∷◌, ℕ}
use Rattle.cop0.specs.Registers.{Status}
use Rattle.cop0.specs.Record.{fresh}
use Rattle.cop0.specs.File.{read_of}
use Rattle.cop0.specs.Access.{mtc0_of}
use Rattle.addr.specs.Access.{access_of}
use Rattle.numbers.specs.Table.{NumberRow, row, answer}

-- the access, after a cold start and a write of Status
abbrev asked : ℕ → List ℕ
asked s = answer (access_of (read_of (mtc0_of fresh Status s) Status))

abbrev pub q2 : List NumberRow
q2 =
    row (asked 0x1C) (0 ∷ 0 ∷ 0 ∷ 1 ∷ [])
    ∷ row (asked 0x14) (0 ∷ 0 ∷ 0 ∷ 1 ∷ [])
    ∷ row (asked 0x7C) (0 ∷ 0 ∷ 0 ∷ 1 ∷ [])
    ∷ row (asked 0x9C) (0 ∷ 0 ∷ 1 ∷ 1 ∷ [])
    ∷ row (asked 0x18) (4 ∷ [])
    ∷ []
