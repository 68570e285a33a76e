-- The segments of each mode and width: tables of first and last addresses, both inside (5.2.4, tables 5-3 and 5-4).
use Rattle.std.specs.Prelude.{Bool, true, false, ◌&&◌, cond, List, [], ◌∷◌, ℕ, eqb, leb}
use Rattle.bits.specs.Field.{field_of}
use Rattle.addr.specs.declared.access.Mode.{Mode}
use Rattle.addr.specs.declared.access.Mode.TheVariants.{Kernel, Supervisor, User}
use Rattle.addr.specs.declared.access.Access.{Access}
use Rattle.addr.specs.declared.segments.Cached.{Cached}
use Rattle.addr.specs.declared.segments.Cached.TheVariants.{Yes, No}
use Rattle.addr.specs.declared.segments.Segment.{Segment}
use Rattle.addr.specs.declared.segments.Segment.TheVariants.{Direct, Mapped, Invalid}

-- how the addresses of a segment are reached: by the TLB; directly, at bits hi..0; or by XKPHYS's own fields
pub data Kind : Type 0 where
  mapped : Kind
  direct : ℕ → Cached → Kind
  xkphys : Kind

-- XKPHYS: bits 58..32 must be zero; bits 61..59 are a C field, of which 2 is uncached (table 5-6)
abbrev pub how : Kind → ℕ → Segment
how mapped v = Mapped
how (direct hi c) v = Direct (field_of v hi 0) c
how xkphys v =
    cond (eqb (field_of v 58 32) 0) (Direct (field_of v 31 0) (cond (eqb (field_of v 61 59) 2) No Yes)) Invalid

pub record SegmentRow : Type 0 where
  pub first : ℕ
  pub last : ℕ
  pub kind : Kind

abbrev pub row : ℕ → ℕ → Kind → SegmentRow
row f l k = record { first = f; last = l; kind = k }

unfoldable pub inside : ℕ → ℕ → ℕ → Bool
inside first last v = leb first v && leb v last

-- by the row that the address lies in; none is an address error
abbrev pub segment_in : List SegmentRow → ℕ → Segment
segment_in [] v = Invalid
segment_in (r ∷ rs) v = cond (inside r.first r.last v) (how r.kind v) (segment_in rs v)

-- the top of both kernel forms
abbrev pub compatibility : List SegmentRow
compatibility =
    row 0xFFFF_FFFF_8000_0000 0xFFFF_FFFF_9FFF_FFFF (direct 28 Yes)  -- kseg0, ckseg0
    ∷ row 0xFFFF_FFFF_A000_0000 0xFFFF_FFFF_BFFF_FFFF (direct 28 No)  -- kseg1, ckseg1
    ∷ row 0xFFFF_FFFF_C000_0000 0xFFFF_FFFF_FFFF_FFFF mapped  -- ksseg and kseg3, cksseg and ckseg3
    ∷ []

-- a mode, and whether its addresses are wide
abbrev pub rows_of : Mode → Bool → List SegmentRow
rows_of User false = row 0 0x7FFF_FFFF mapped ∷ []  -- useg
rows_of User true = row 0 0xFF_FFFF_FFFF mapped ∷ []  -- xuseg
rows_of Supervisor false =
    row 0 0x7FFF_FFFF mapped  -- suseg
    ∷ row 0xFFFF_FFFF_C000_0000 0xFFFF_FFFF_DFFF_FFFF mapped  -- sseg
    ∷ []
rows_of Supervisor true =
    row 0 0xFF_FFFF_FFFF mapped  -- xsuseg
    ∷ row 0x4000_0000_0000_0000 0x4000_00FF_FFFF_FFFF mapped  -- xsseg
    ∷ row 0xFFFF_FFFF_C000_0000 0xFFFF_FFFF_DFFF_FFFF mapped  -- csseg
    ∷ []
rows_of Kernel false =
    row 0 0x7FFF_FFFF mapped  -- kuseg
    ∷ compatibility
rows_of Kernel true =
    row 0 0xFF_FFFF_FFFF mapped  -- xkuseg
    ∷ row 0x4000_0000_0000_0000 0x4000_00FF_FFFF_FFFF mapped  -- xksseg
    ∷ row 0x8000_0000_0000_0000 0xBFFF_FFFF_FFFF_FFFF xkphys  -- xkphys
    ∷ row 0xC000_0000_0000_0000 0xC000_00FF_7FFF_FFFF mapped  -- xkseg
    ∷ compatibility

-- with ERL the first 2 GB are direct and uncached in every mode (5.2.2)
abbrev pub erl_row : SegmentRow
erl_row = row 0 0x7FFF_FFFF (direct 31 No)

abbrev pub table_of : Access → List SegmentRow
table_of a = cond a.erl (erl_row ∷ rows_of a.mode a.wide) (rows_of a.mode a.wide)

unfoldable pub segment_of : Access → ℕ → Segment
segment_of a v = segment_in (table_of a) v
