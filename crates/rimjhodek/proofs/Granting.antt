-- The access that Status asks for, of the export by its contract: it is refused with 4 exactly where KSU is 3 and EXL and ERL are 0.
use Rattle.std.proofs.Common.{◌≡◌, ℕ, cond, ap, ◌∙◌}
use Rattle.addr.specs.Access.{names_none}
use Rattle.addr.proofs.Modes.{refusal_is}
use Rattle.rimjhodek.specs.declared.modes.Granted.{Granted}
use Rattle.rimjhodek.proofs.modes.rimjhodek_from_status.Reads as from_status

pub granted_refused : (a : ℕ × Unit {0}) (r : Granted) → from_status.Post tt a r a → r.refused ≡ cond (names_none a.0) 4 0
granted_refused a r p = ap (λ (g : Granted). g.refused) p ∙ refusal_is a.0
