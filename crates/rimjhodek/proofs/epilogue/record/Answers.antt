-- By EXL: Cause alone, or EPC and then Cause.
use Rattle.std.proofs.Common.{◌∙◌, eq-eqb, ne_eqb}
use Rattle.cop0.specs.Registers.{Cause, EPC}
use Rattle.exception.specs.Epilogue.{recorded}
use Rattle.rimjhodek.proofs.Taking.{made_none, made_set, set_last}
use Rattle.rimjhodek.proofs.epilogue.record.Goals as goal

pub returns-then-field-eq1 : goal.returns-then-field-eq1
unfolding recorded
returns-then-field-eq1 c =
    c.set_hardware.ensures
    ∙ rw (
      c.cause-new_cause.ensures,
      c.read.ensures,
      ← c.read-2.ensures,
      ← c.field.ensures,
      eq-eqb _ _ c.if-field-eq1.true,
    )

pub returns : goal.returns
unfolding recorded
returns c =
    let start = made_none c.args.cop0.now c.told-cop0 in
    set_last (made_set start EPC _ _ c.set_hardware-2.ensures) Cause _ _ c.set_hardware-3.ensures
    ∙ rw (
      c.epc.ensures,
      c.with_field.ensures,
      c.cause-new_cause.ensures,
      c.read.ensures,
      ← c.read-2.ensures,
      ← c.field.ensures,
      ne_eqb _ _ c.if-field-eq1.false,
    )
