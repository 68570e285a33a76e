-- The register files that operations can make: in each of them the bits that a register does not have are zero.
use Rattle.std.specs.Prelude.{◌≡◌, ℕ, ◌<◌, ◌≤◌}
use Rattle.bits.specs.Mask.{under}
use Rattle.cop0.specs.declared.registers.Cop0.{Cop0}
use Rattle.cop0.specs.Registers.{arch_mask}
use Rattle.cop0.specs.Record.{reg}
use Rattle.cop0.specs.Machine.{Kept}

-- 32 registers, each with bits of its ARCH_MASK alone; the last-asked Count is Count; EC is at most 7
pub record Within (c : Cop0) : Type 0 where
  pub kept : Kept c
  pub bits : (n : ℕ) → n < 32 → under (arch_mask n) (reg c n) ≡ reg c n
  pub ec : c.ec ≤ 7
