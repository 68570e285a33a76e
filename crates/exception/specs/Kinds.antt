-- The exceptions: the ExcCode of each (table 6-2), the coprocessor that CE names, whether it has a faulting address (6.3.2), and
-- its vector (tables 6-3 and 6-4).
use Rattle.std.specs.Prelude.{ℕ, Bool, true, false, cond}
use Rattle.exception.specs.declared.kinds.Exception.{Exception}
use Rattle.exception.specs.declared.kinds.Exception.TheVariants.{Interrupt, AddressError, Overflow, Syscall, Breakpoint, Trap, ReservedInstruction, CoprocessorReserved, CoprocessorUnusable, Nmi, TlbInvalid, TlbModified, FloatingPoint}
use Rattle.exception.specs.declared.kinds.Exception.TheVariants as exception
use Rattle.exception.specs.declared.vectors.VectorKind.{VectorKind}
use Rattle.exception.specs.declared.vectors.VectorKind.TheVariants.{General, TlbRefill, XtlbRefill, Reset}

pub record ExceptionRow : Type 0 where
  pub code : ℕ
  pub unit : ℕ
  pub address : Bool
  pub vector : VectorKind

abbrev pub row : ℕ → ℕ → Bool → VectorKind → ExceptionRow
row c u a v = record { code = c; unit = u; address = a; vector = v }

abbrev pub row_of : Exception → ExceptionRow
row_of Interrupt = row 0 0 false General  -- Int
row_of (AddressError store) = row (cond store 5 4) 0 true General  -- AdES, AdEL
row_of Overflow = row 12 0 false General  -- Ov
row_of Syscall = row 8 0 false General  -- Sys
row_of Breakpoint = row 9 0 false General  -- Bp
row_of Trap = row 13 0 false General  -- Tr
row_of ReservedInstruction = row 10 0 false General  -- RI
row_of (CoprocessorReserved unit) = row 10 unit false General  -- RI
row_of (CoprocessorUnusable unit) = row 11 unit false General  -- CpU
row_of Nmi = row 0 0 false Reset  -- it writes no code
row_of (exception.TlbRefill store wide) = row (cond store 3 2) 0 true (cond wide XtlbRefill TlbRefill)  -- TLBS, TLBL
row_of (TlbInvalid store) = row (cond store 3 2) 0 true General  -- TLBS, TLBL
row_of TlbModified = row 1 0 true General  -- Mod
row_of FloatingPoint = row 15 0 false General  -- FPE

abbrev pub exc_code_of : Exception → ℕ
exc_code_of e = (row_of e).code

abbrev pub unit_of : Exception → ℕ
unit_of e = (row_of e).unit

abbrev pub writes_bad_vaddr_of : Exception → Bool
writes_bad_vaddr_of e = (row_of e).address

abbrev pub vector_kind_of : Exception → VectorKind
vector_kind_of e = (row_of e).vector
