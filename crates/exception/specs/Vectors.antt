-- Where a vector is: base and offset (tables 6-3 and 6-4). Status: BEV 22, EXL 1.
use Rattle.std.specs.Prelude.{ℕ, ◌+◌, Bool, true, false, cond, ◌==◌}
use Rattle.bits.specs.Field.{field_of}
use Rattle.exception.specs.declared.vectors.VectorKind.{VectorKind}
use Rattle.exception.specs.declared.vectors.VectorKind.TheVariants.{General, TlbRefill, XtlbRefill, Reset}

-- the number of each vector
abbrev pub kind_number : VectorKind → ℕ
kind_number General = 0
kind_number TlbRefill = 1
kind_number XtlbRefill = 2
kind_number Reset = 3

abbrev pub is_reset : VectorKind → Bool
is_reset General = false
is_reset TlbRefill = false
is_reset XtlbRefill = false
is_reset Reset = true

abbrev pub base_of : ℕ → ℕ
base_of status = cond (field_of status 22 22 == 1) 0xFFFF_FFFF_BFC0_0200 0xFFFF_FFFF_8000_0000

-- a refill's own offset when EXL is 0, else the common one (6.4.8)
abbrev pub refill_offset_of : ℕ → ℕ → ℕ
refill_offset_of status own = cond (field_of status 1 1 == 1) 0x180 own

abbrev pub vector_of : ℕ → VectorKind → ℕ
vector_of status General = base_of status + 0x180
vector_of status TlbRefill = base_of status + refill_offset_of status 0x000
vector_of status XtlbRefill = base_of status + refill_offset_of status 0x080
vector_of status Reset = 0xFFFF_FFFF_BFC0_0000
