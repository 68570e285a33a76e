-- Cause's pending bits IP7..IP0 (Cause 15..8) and their masks IM7..IM0 (Status 15..8) (6.3.5, 6.3.6).
use Rattle.std.specs.Prelude.{ℕ, ◌+◌, ◌%◌, Bool, not, ◌&&◌, ◌==◌, bit_and}
use Rattle.bits.specs.Field.{field_of, with_field_of, bit}
use Rattle.cop0.specs.declared.registers.Cop0.{Cop0}
use Rattle.cop0.specs.Registers.{Status, Cause}
use Rattle.cop0.specs.Record.{reg, with_reg}

-- pending bit b of Cause set to on, b modulo 8
unfoldable pub set_ip_of : Cop0 → ℕ → Bool → Cop0
set_ip_of c b on = with_reg c Cause (with_field_of (reg c Cause) (8 + b % 8) (8 + b % 8) (bit on))

-- IE is 1, EXL and ERL are 0, and a pending bit meets its mask bit (6.1, 6.3.5; figure 14-4)
unfoldable pub interrupt_pending_of : Cop0 → Bool
interrupt_pending_of c =
    (field_of (reg c Status) 0 0 == 1)
    && field_of (reg c Status) 1 1 == 0
    && field_of (reg c Status) 2 2 == 0
    && not (bit_and (field_of (reg c Cause) 15 8) (field_of (reg c Status) 15 8) == 0)
