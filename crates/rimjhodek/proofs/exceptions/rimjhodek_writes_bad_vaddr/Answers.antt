-- Of what the number names.
use Rattle.std.proofs.Common.{sym, ◌∙◌, rules}
use Rattle.bits.proofs.FieldLaws.{bit_undone}
use Rattle.rimjhodek.proofs.Naming.{exception_named}
use Rattle.rimjhodek.proofs.exceptions.rimjhodek_writes_bad_vaddr.Goals as goal

pub returns-in-Some : goal.returns-in-Some
returns-in-Some c =
    let w = exception_named c.args.exc _ (sym c.exception_of.ensures ∙ c.in-Some.is) in
    rw (w.0, w.1, bit_undone) (search rules)
