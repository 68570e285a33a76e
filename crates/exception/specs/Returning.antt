-- ERET: by ErrorEPC and out of ERL where that is set, else by EPC and out of EXL.
use Rattle.std.specs.Prelude.{ℕ, Bool, cond, ◌==◌}
use Rattle.bits.specs.Field.{field_of, with_field_of}
use Rattle.cop0.specs.declared.registers.Cop0.{Cop0}
use Rattle.cop0.specs.Registers.{Status, EPC, ErrorEPC}
use Rattle.cop0.specs.File.{read_of, set_hardware_of}
use Rattle.exception.specs.declared.returning.Returned.{Returned}

-- ERL, Status bit 2: an error's handler runs
abbrev pub in_error : Cop0 → Bool
in_error c = field_of (read_of c Status) 2 2 == 1

-- resuming at register n, with Status bit b cleared
abbrev pub returned : Cop0 → ℕ → ℕ → Returned
returned c n b = record { pc = read_of c n; cop0 = set_hardware_of c Status (with_field_of (read_of c Status) b b 0) }

unfoldable pub eret_of : Cop0 → Returned
eret_of c = cond (in_error c) (returned c ErrorEPC 2) (returned c EPC 1)
