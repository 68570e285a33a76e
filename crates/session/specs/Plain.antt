-- The plain machine: a session in which an advance is Count's ticks one at a time and Random's steps one at a time, the timer's
-- pending bit raised on the tick where Count becomes Compare. All else is as in `Step`.
use Rattle.std.specs.Prelude.{cond, List, [], ◌∷◌, ℕ, ◌^◌, ltb}
use Rattle.bits.specs.Told.{answered, refused}
use Rattle.cop0.specs.Machine.{ticks, edges, steps}
use Rattle.session.specs.declared.session.Session.{Session}
use Rattle.session.specs.declared.op.Op.{Op}
use Rattle.session.specs.Record.{with_cop0}
use Rattle.session.specs.Step.{Outcome, told, step_by}
use Rattle.session.specs.Run.{Ran, run_by}

-- n ticks and m steps, and the number of ticks on which Count became Compare; refusal 5 for counts from 2^32 up
unfoldable pub plain_advance : ℕ → ℕ → Session → Outcome
plain_advance n m s =
    cond (ltb n (2 ^ 32))
    (told (answered (7 ∷ edges n s.cop0 ∷ [])) (with_cop0 s (steps m (ticks n s.cop0))))
    (told (refused 5) s)

abbrev pub plain_run : List Op → Session → Ran
plain_run os s = run_by (step_by plain_advance) os s
