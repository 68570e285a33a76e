-- What an exception writes, register by register and field by field (6.3, figure 6-14).
use Rattle.std.specs.Prelude.{ℕ, Bool, cond, ◌==◌}
use Rattle.bits.specs.Field.{field_of, with_field_of, bit}
use Rattle.cop0.specs.declared.registers.Cop0.{Cop0}
use Rattle.cop0.specs.Registers.{Context, BadVAddr, EntryHi, Status, Cause, EPC, XContext}
use Rattle.cop0.specs.Clock.{less}
use Rattle.cop0.specs.File.{read_of, set_hardware_of}
use Rattle.exception.specs.declared.kinds.Exception.{Exception}
use Rattle.exception.specs.Kinds.{exc_code_of, unit_of}

-- Cause: ExcCode 6..2, CE 29..28
abbrev pub cause_of : ℕ → Exception → ℕ
cause_of x e = with_field_of (with_field_of x 6 2 (exc_code_of e)) 29 28 (unit_of e)

-- the instruction, or the branch before it where it stands in a delay slot
abbrev pub epc_of : ℕ → Bool → ℕ
epc_of pc slot = cond slot (less 64 pc 4) pc

-- EXL, Status bit 1: a handler runs
abbrev pub in_handler : Cop0 → Bool
in_handler c = field_of (read_of c Status) 1 1 == 1

-- the cause; and where EXL was 0 also BD (Cause 31) and EPC
unfoldable pub recorded : Cop0 → Exception → ℕ → Bool → Cop0
recorded c e pc slot =
    cond (in_handler c) (set_hardware_of c Cause (cause_of (read_of c Cause) e))
    (set_hardware_of (set_hardware_of c EPC (epc_of pc slot)) Cause (with_field_of (cause_of (read_of c Cause) e) 31 31 (bit slot)))

-- Context: BadVPN2 22..4 takes address bits 31..13
abbrev pub context_of : ℕ → ℕ → ℕ
context_of x v = with_field_of x 22 4 (field_of v 31 13)

-- XContext: BadVPN2 30..4 takes 39..13, R 32..31 takes 63..62
abbrev pub xcontext_of : ℕ → ℕ → ℕ
xcontext_of x v = with_field_of (with_field_of x 30 4 (field_of v 39 13)) 32 31 (field_of v 63 62)

-- EntryHi: VPN2 39..13 and R 63..62 take the same bits in place; ASID stays
abbrev pub entry_hi_of : ℕ → ℕ → ℕ
entry_hi_of x v = with_field_of (with_field_of x 39 13 (field_of v 39 13)) 63 62 (field_of v 63 62)

-- the four registers that take the faulting address
unfoldable pub addressed : Cop0 → ℕ → Cop0
addressed c v =
    set_hardware_of
    (set_hardware_of
    (set_hardware_of
    (set_hardware_of c BadVAddr v)
    Context (context_of (read_of c Context) v))
    XContext (xcontext_of (read_of c XContext) v))
    EntryHi (entry_hi_of (read_of c EntryHi) v)

-- EXL set
unfoldable pub handling : Cop0 → Cop0
handling c = set_hardware_of c Status (with_field_of (read_of c Status) 1 1 1)
