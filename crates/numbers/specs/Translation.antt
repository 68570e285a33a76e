-- P1, P2 and P3: page masks and sizes; and Q3, the number of document 02's third request: of a page mask the bits under 0155_4000
-- count, and each makes its pair.
use Rattle.std.specs.Prelude.{cond, List, [], ◌∷◌, ℕ, zero, suc, ◌+◌, ◌^◌, eqb}
use Rattle.tlb.specs.Entries.{page_size_of}
use Rattle.tlb.specs.Moves.{canonical_of}
use Rattle.numbers.specs.Table.{NumberRow, row, number}

abbrev pub p1 : List NumberRow
p1 = row (number (canonical_of 0x2000)) (number 0) ∷ []

abbrev pub p2 : List NumberRow
p2 = row (number (canonical_of 0x4000)) (number 0x6000) ∷ row (number (page_size_of (canonical_of 0x4000))) (number 0x4000) ∷ []

abbrev pub p3 : List NumberRow
p3 =
    row (number (canonical_of 0x0006_0000)) (number 0x0006_0000)
    ∷ row (number (page_size_of (canonical_of 0x0006_0000))) (number 0x0003_1000)
    ∷ []

-- of the lowest n bits those that count: written alone, they leave something in the entry's mask
abbrev counting : ℕ → ℕ
counting zero = 0
counting (suc n) = counting n + cond (eqb (canonical_of (2 ^ n)) 0) 0 (2 ^ n)

abbrev pub q3 : List NumberRow
q3 =
    row (number (counting 64)) (number 0x0155_4000)
    ∷ row (number (canonical_of 0x0155_4000)) (number 0x01FF_E000)
    ∷ row (number (canonical_of 0x00AA_A000)) (number 0)
    ∷ []
