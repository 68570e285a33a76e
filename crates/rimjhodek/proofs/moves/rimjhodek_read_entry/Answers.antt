-- The entry alone is read as the table is, and four registers change.
use Rattle.std.proofs.Common.{◌≡◌, ◌%◌, ap, ◌∙◌, arith}
use Rattle.cop0.specs.declared.registers.Cop0.{Cop0}
use Rattle.tlb.specs.Moves.{read_entry_of}
use Rattle.rimjhodek.specs.Registers.{cop0_in, putting_back}
use Rattle.rimjhodek.specs.Table.{table_in}
use Rattle.rimjhodek.proofs.Changing.{of_read, put_read}
use Rattle.rimjhodek.proofs.Scanning.{entry_at_lem}
use Rattle.rimjhodek.proofs.moves.rimjhodek_read_entry.Goals as goal

pub returns : goal.returns
unfolding read_entry_of
returns c =
    let a = c.args in
    let ws = a.cop0.now in
    let t = table_in a.tlb.now in
    let after : c.read_entry-after.result ≡ read_entry_of t a.index (cop0_in ws) =
    rw (c.read_entry-after.ensures, c.cop0_in.ensures, c.filled_with.ensures, c.entry_in-e.ensures, c.of.ensures, entry_at_lem a.tlb.now (a.index % 32) (omega arith)) in
    ap (λ (d : Cop0). putting_back of_read d.regs ws) after ∙ put_read ws c.told-cop0 t a.index
