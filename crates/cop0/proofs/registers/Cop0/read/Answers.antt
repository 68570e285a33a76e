-- `Cop0::read` goes by the register number.
use Rattle.std.proofs.Common.{eq-eqb, ne_eqb}
use Rattle.cop0.specs.File.{read_at}
use Rattle.cop0.proofs.registers.Cop0.read.Goals as goal

pub returns-then-is_unused : goal.returns-then-is_unused
unfolding read_at
returns-then-is_unused c = rw (← c.is_unused.ensures, c.if-is_unused.true)

pub returns-then-k-eq-COUNT : goal.returns-then-k-eq-COUNT
unfolding read_at
returns-then-k-eq-COUNT c =
    rw (← c.is_unused.ensures, c.if-is_unused.false, eq-eqb _ _ c.if-k-eq-COUNT.true) c.count.ensures

pub returns-then-k-eq-CONFIG : goal.returns-then-k-eq-CONFIG
unfolding read_at
returns-then-k-eq-CONFIG c =
    rw (
      c.arch_mask.ensures,
      c.reg.ensures,
      ← c.is_unused.ensures,
      c.if-is_unused.false,
      ne_eqb _ _ c.if-k-eq-COUNT.false,
      eq-eqb _ _ c.if-k-eq-CONFIG.true,
      c.if-k-eq-CONFIG.true,
    )

pub returns : goal.returns
unfolding read_at
returns c =
    rw (
      c.arch_mask.ensures,
      c.reg.ensures,
      ← c.is_unused.ensures,
      c.if-is_unused.false,
      ne_eqb _ _ c.if-k-eq-COUNT.false,
      ne_eqb _ _ c.if-k-eq-CONFIG.false,
    )
