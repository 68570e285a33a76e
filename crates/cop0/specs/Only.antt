-- A record in which none but some registers have changed.
use Rattle.std.specs.Prelude.{◌≡◌, ℕ, false, List, length}
use Rattle.cop0.specs.declared.registers.Cop0.{Cop0}
use Rattle.cop0.specs.Registers.{among}
use Rattle.cop0.specs.Record.{reg, with_regs}

-- d is c but for registers of the list ns: the clock, the epoch, the last-asked Count, EC and the latch stand
pub record Only (ns : List ℕ) (c d : Cop0) : Type 0 where
  pub rest : d ≡ with_regs c d.regs
  pub file : length d.regs ≡ length c.regs
  pub others : (n : ℕ) → among ns n ≡ false → reg d n ≡ reg c n
