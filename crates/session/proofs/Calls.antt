-- What `step` returns, call after call, is the run: what `Rooms` says of runs is so said of the code, by its contract alone.
use mathlib.Core.Path.{◌≡◌, refl, ap, ◌∙◌}
use mathlib.Core.List.{List, [], ◌∷◌, map}
use Rattle.bits.specs.Told.{Told}
use Rattle.session.specs.declared.session.Session.{Session}
use Rattle.session.specs.declared.session.Stepped.{Stepped}
use Rattle.session.specs.declared.op.Op.{Op}
use Rattle.session.specs.Step.{Outcome, outcome}
use Rattle.session.specs.Run.{Ran, preceded, run_by, run}
use Rattle.session.proofs.session.Session.step.Reads as step

-- results that fit step's contract one after the other, each from the session that the one before handed back
unfoldable pub Called : List Op → Session → List Stepped → Type 0
Called [] s [] = Unit {0}
Called [] s (r ∷ rs) = ⊥
Called (o ∷ os) s [] = ⊥
Called (o ∷ os) s (r ∷ rs) = step.Post tt (s, (o, tt)) r (s, (o, tt)) × Called os r.session rs

-- the session that the last one handed back, and the answers
unfoldable pub left : Session → List Stepped → Session
left s [] = s
left s (r ∷ rs) = left r.session rs

abbrev pub answer_of : Stepped → Told
answer_of r = (outcome r).answer

abbrev pub ran : Session → List Stepped → Ran
ran s rs = record { session = left s rs; answers = map answer_of rs }

pub calls_are_the_run : (os : List Op) (s : Session) (rs : List Stepped) → Called os s rs → ran s rs ≡ run os s
unfolding run_by Called left
calls_are_the_run [] s [] c = refl
calls_are_the_run [] s (r ∷ rs) c = elim c [ ]
calls_are_the_run (o ∷ os) s [] c = elim c [ ]
calls_are_the_run (o ∷ os) s (r ∷ rs) (fits, rest) =
    ap (preceded (answer_of r)) (calls_are_the_run os r.session rs rest)
    ∙ ap (λ (p : Outcome). preceded p.answer (run os p.session)) fits
