-- By the lowest three bits of Status, and then by the pending bits.
use Rattle.std.proofs.Common.{ℕ, true, false, eqb, sym, ap, ◌∙◌, eq-eqb, ne_eqb}
use Rattle.rimjhodek.proofs.Pending.{pending_is}
use Rattle.rimjhodek.proofs.interrupts.rimjhodek_interrupt_pending.Goals as goal

pub returns-then-field-ne1 : goal.returns-then-field-ne1
returns-then-field-ne1 c =
    pending_is c.args.cop0.now false (ap (λ (x : ℕ). eqb x 1) (sym c.field.ensures) ∙ ne_eqb _ _ c.if-field-ne1.true)

pub returns : goal.returns
returns c =
    rw c.field-2.ensures
    (pending_is c.args.cop0.now true (ap (λ (x : ℕ). eqb x 1) (sym c.field.ensures) ∙ eq-eqb _ _ c.if-field-ne1.false))
