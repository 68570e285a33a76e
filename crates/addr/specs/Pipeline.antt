-- The access as the Rust original's pipeline makes it of Status: `access_mode`, pipeline.rs, lines 1453 to 1485. No contract cites it:
-- the definition from the manual is held to it.
use Rattle.std.specs.Prelude.{cond, ℕ, eqb}
use Rattle.bits.specs.Field.{field_of}
use Rattle.bits.specs.Told.{Told, refused}
use Rattle.addr.specs.declared.access.Mode.{Mode}
use Rattle.addr.specs.declared.access.Mode.TheVariants.{Kernel, Supervisor, User}
use Rattle.addr.specs.Access.{in_mode, names_none}

-- lines 1459 to 1473: kernel where bits 2..1, ERL and EXL, are not both 0; else by KSU, and kernel for KSU 3 as for 0
abbrev pub pipeline_mode : ℕ → Mode
pipeline_mode s =
    cond (eqb (field_of s 2 1) 0)
    (cond (eqb (field_of s 4 3) 1) Supervisor (cond (eqb (field_of s 4 3) 2) User Kernel))
    Kernel

-- lines 1475 to 1479: UX, SX or KX
abbrev pub width_bit : Mode → ℕ
width_bit User = 5
width_bit Supervisor = 6
width_bit Kernel = 7

-- lines 1480 to 1484, and 1539 to 1541 for ERL
abbrev pub pipeline_access : ℕ → Told
pipeline_access s = in_mode (pipeline_mode s) (width_bit (pipeline_mode s)) s

-- refused where Status names no mode
abbrev pub pipeline_told : ℕ → Told
pipeline_told s = cond (names_none s) (refused 4) (pipeline_access s)
