-- Exceptions and vectors by their numbers, and a dispatch as it crosses.
use Rattle.std.specs.Prelude.{ℕ, Bool, cond, List, [], ◌∷◌, slice_index_or}
use Rattle.bits.specs.Told.{Told}
use Rattle.cop0.specs.declared.registers.Cop0.{Cop0}
use Rattle.exception.specs.declared.epilogue.Dispatch.{Dispatch}
use Rattle.exception.specs.declared.kinds.Exception.{Exception}
use Rattle.exception.specs.declared.kinds.Exception.TheVariants as exception
use Rattle.exception.specs.declared.vectors.VectorKind.{VectorKind}
use Rattle.exception.specs.declared.vectors.VectorKind.TheVariants as vector
use Rattle.exception.specs.Taking.{dispatch_of}
use Rattle.rimjhodek.specs.declared.exceptions.Exc.{Exc}
use Rattle.rimjhodek.specs.declared.exceptions.Taken.{Taken}
use Rattle.rimjhodek.specs.Answers.{value}
use Rattle.rimjhodek.specs.Numbered.{names, if_named}

-- each with the values that it holds
abbrev pub exceptions_of : Exc → List Exception
exceptions_of e =
    exception.Interrupt
    ∷ exception.AddressError e.store
    ∷ exception.Overflow
    ∷ exception.Syscall
    ∷ exception.Breakpoint
    ∷ exception.Trap
    ∷ exception.ReservedInstruction
    ∷ exception.CoprocessorReserved e.unit
    ∷ exception.CoprocessorUnusable e.unit
    ∷ exception.Nmi
    ∷ exception.TlbRefill e.store e.wide
    ∷ exception.TlbInvalid e.store
    ∷ exception.TlbModified
    ∷ exception.FloatingPoint
    ∷ []

abbrev pub is_exception : Exc → Bool
is_exception e = names (exceptions_of e) e.number

unfoldable pub exception_of : Exc → Exception
exception_of e = slice_index_or (exceptions_of e) e.number exception.FloatingPoint

abbrev pub kinds : List VectorKind
kinds = vector.General ∷ vector.TlbRefill ∷ vector.XtlbRefill ∷ vector.Reset ∷ []

abbrev pub is_kind : ℕ → Bool
is_kind n = names kinds n

unfoldable pub kind_of : ℕ → VectorKind
kind_of n = slice_index_or kinds n vector.Reset

abbrev pub dispatch_values : Dispatch → List ℕ
dispatch_values d = d.vector ∷ d.stall_cycles ∷ []

abbrev pub taken_of : Told → Taken
taken_of t = record { refused = t.number; stall_cycles = value t 1; vector = value t 0 }

-- the answer, and the registers after it, which are as before where the number names no exception
unfoldable pub dispatch_told : Cop0 → Exc → ℕ → Bool → ℕ → Told
dispatch_told c e pc slot bad = if_named (is_exception e) (dispatch_values (dispatch_of c (exception_of e) pc slot bad).dispatch)

unfoldable pub dispatched_of : Cop0 → Exc → ℕ → Bool → ℕ → Cop0
dispatched_of c e pc slot bad = cond (is_exception e) (dispatch_of c (exception_of e) pc slot bad).cop0 c
