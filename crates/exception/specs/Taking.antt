-- Taking an exception: the answer and the registers after it (figure 6-14; NMI 6.4.6).
use Rattle.std.specs.Prelude.{ℕ, Bool, cond}
use Rattle.bits.specs.Field.{with_field_of}
use Rattle.cop0.specs.declared.registers.Cop0.{Cop0}
use Rattle.cop0.specs.Registers.{Status, ErrorEPC}
use Rattle.cop0.specs.File.{read_of, set_hardware_of}
use Rattle.exception.specs.declared.kinds.Exception.{Exception}
use Rattle.exception.specs.declared.vectors.VectorKind.TheVariants.{Reset}
use Rattle.exception.specs.declared.epilogue.Dispatched.{Dispatched}
use Rattle.exception.specs.Vectors.{is_reset, vector_of}
use Rattle.exception.specs.Kinds.{writes_bad_vaddr_of, vector_kind_of}
use Rattle.exception.specs.Epilogue.{recorded, addressed, handling}

-- the pipeline stalls for 2 cycles (4.7)
abbrev pub entered : ℕ → Cop0 → Dispatched
entered v c = record { dispatch = record { vector = v; stall_cycles = 2 }; cop0 = c }

-- TS 21 is cleared; ERL 2, SR 20 and BEV 22 are set
abbrev pub nmi_status_of : ℕ → ℕ
nmi_status_of s = with_field_of (with_field_of (with_field_of (with_field_of s 21 21 0) 2 2 1) 20 20 1) 22 22 1

unfoldable pub nmi_of : Cop0 → ℕ → Dispatched
nmi_of c pc =
    entered (vector_of (read_of c Status) Reset)
    (set_hardware_of (set_hardware_of c ErrorEPC pc) Status (nmi_status_of (read_of c Status)))

-- the cause, the faulting address of those that have one, and EXL
unfoldable pub taken_of : Cop0 → Exception → ℕ → Bool → ℕ → Cop0
taken_of c e pc slot bad =
    handling (cond (writes_bad_vaddr_of e) (addressed (recorded c e pc slot) bad) (recorded c e pc slot))

-- NMI alone takes the Reset vector; the vector is by Status from before
unfoldable pub dispatch_of : Cop0 → Exception → ℕ → Bool → ℕ → Dispatched
dispatch_of c e pc slot bad =
    cond (is_reset (vector_kind_of e)) (nmi_of c pc) (entered (vector_of (read_of c Status) (vector_kind_of e)) (taken_of c e pc slot bad))
