-- The segment of the address where the mode is named.
use Rattle.std.proofs.Common.{rules}
use Rattle.std.proofs.Common.{sym, ◌∙◌}
use Rattle.std.proofs.lemmas.Option.{cond_some}
use Rattle.rimjhodek.specs.Modes.{is_mode, segment_told}
use Rattle.rimjhodek.proofs.Naming.{cond_none}
use Rattle.rimjhodek.proofs.Segments.{segment_told_lem}
use Rattle.rimjhodek.proofs.modes.rimjhodek_segment.Goals as goal

pub returns-in-Some : goal.returns-in-Some
unfolding segment_told
returns-in-Some c =
    let w = cond_some (is_mode c.args.access.mode) _ _ (sym c.access_in.ensures ∙ c.in-Some.is) in
    rw (c.from.ensures, w.0, w.1, segment_told_lem c.segment.result _ c.args.vaddr c.segment.ensures)

pub returns-in-None : goal.returns-in-None
unfolding segment_told
returns-in-None c = rw (cond_none (is_mode c.args.access.mode) _ (sym c.access_in.ensures ∙ c.in-None.is)) (search rules)
