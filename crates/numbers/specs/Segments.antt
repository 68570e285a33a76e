-- P4, P5 and P6: limits of the segments.
use Rattle.std.specs.Prelude.{Bool, true, false, List, [], ◌∷◌, ℕ}
use Rattle.addr.specs.declared.access.Mode.{Mode}
use Rattle.addr.specs.declared.access.Mode.TheVariants.{Kernel, Supervisor}
use Rattle.addr.specs.declared.segments.Cached.TheVariants.{No}
use Rattle.addr.specs.declared.segments.Segment.TheVariants.{Direct, Mapped, Invalid}
use Rattle.addr.specs.Answers.{told_segment}
use Rattle.addr.specs.Segments.{segment_of}
use Rattle.numbers.specs.Table.{NumberRow, row, answer}

-- the segment of an address, in a mode and a width
abbrev found : Mode → Bool → ℕ → List ℕ
found m wide v = answer (told_segment (segment_of (record { mode = m; wide = wide; erl = false }) v))

abbrev is_mapped : List ℕ
is_mapped = answer (told_segment Mapped)

abbrev is_error : List ℕ
is_error = answer (told_segment Invalid)

abbrev pub p4 : List NumberRow
p4 =
    row (found Supervisor false 0xFFFF_FFFF_DFFF_FFFF) is_mapped
    ∷ row (found Supervisor false 0xFFFF_FFFF_E000_0000) is_error
    ∷ []

abbrev pub p5 : List NumberRow
p5 = row (found Kernel true 0xC000_00FF_7FFF_FFFF) is_mapped ∷ row (found Kernel true 0xC000_00FF_8000_0000) is_error ∷ []

abbrev pub p6 : List NumberRow
p6 =
    row (found Kernel true 0x9000_0000_1234_5678) (answer (told_segment (Direct 0x1234_5678 No)))
    ∷ row (found Kernel true 0x9000_0001_0000_0000) is_error
    ∷ []
