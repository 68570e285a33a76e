-- Index takes the lowest match, and no other register changes.
use Rattle.std.proofs.Common.{◌≡◌, ap, ◌∙◌}
use Rattle.cop0.specs.declared.registers.Cop0.{Cop0}
use Rattle.tlb.specs.Moves.{probe_of}
use Rattle.rimjhodek.specs.Registers.{cop0_in, putting_back}
use Rattle.rimjhodek.specs.Table.{index_for, table_in}
use Rattle.rimjhodek.proofs.Changing.{of_probe, put_probed}
use Rattle.rimjhodek.proofs.moves.rimjhodek_probe.Goals as goal

pub returns : goal.returns
unfolding probe_of index_for
returns c =
    let a = c.args in
    let ws = a.cop0.now in
    let after : c.set_hardware-after.result ≡ probe_of (table_in a.tlb.now) (cop0_in ws) =
    rw (c.set_hardware-after.ensures, c.index_for.ensures, c.read-hi.ensures, c.cop0_in-c.ensures) in
    ap (λ (d : Cop0). putting_back of_probe d.regs ws) after ∙ put_probed ws c.told-cop0 (table_in a.tlb.now)
