-- Of what the number names.
use Rattle.std.proofs.Common.{sym, ◌∙◌}
use Rattle.rimjhodek.proofs.Naming.{kind_named}
use Rattle.rimjhodek.proofs.exceptions.rimjhodek_vector.Goals as goal

pub returns-in-Some : goal.returns-in-Some
returns-in-Some c =
    let w = kind_named c.args.kind _ (sym c.kind_of.ensures ∙ c.in-Some.is) in
    rw (c.of.ensures, c.vector.ensures, w.0, w.1)
