-- Runs: a list of operations, one after the other.
use Rattle.std.specs.Prelude.{cond, List, [], ◌∷◌, ℕ, ◌+◌, eqb, get_or}
use Rattle.bits.specs.Told.{Told}
use Rattle.cop0.specs.Cut.{Piece}
use Rattle.session.specs.declared.session.Session.{Session}
use Rattle.session.specs.declared.op.Op.{Op}
use Rattle.session.specs.declared.op.Op.TheVariants.{Advance}
use Rattle.session.specs.Step.{Outcome, step_of}

-- the session at the end, and the answers in order
pub record Ran : Type 0 where
  pub session : Session
  pub answers : List Told

-- an answer, and then a run
abbrev pub preceded : Told → Ran → Ran
preceded a r = record { session = r.session; answers = a ∷ r.answers }

-- each operation by the rule f
unfoldable pub run_by : (Op → Session → Outcome) → List Op → Session → Ran
run_by f [] s = record { session = s; answers = [] }
run_by f (o ∷ os) s = preceded (f o s).answer (run_by f os (f o s).session)

-- as `step` runs them
abbrev pub run : List Op → Session → Ran
run os s = run_by step_of os s

-- three lists one after the other, the answers to each apart
pub record Parts : Type 0 where
  pub session : Session
  pub before : List Told
  pub between : List Told
  pub after : List Told

abbrev pub in_parts : List Op → List Op → List Op → Session → Parts
in_parts os ps qs s =
    let first : Ran = run os s in
    let second : Ran = run ps first.session in
    let third : Ran = run qs second.session in
    record { session = third.session; before = first.answers; between = second.answers; after = third.answers }

-- an advance cut in pieces: an advance for each
unfoldable pub advances : List Piece → List Op
advances [] = []
advances (p ∷ ps) = Advance p.counts p.moves ∷ advances ps

-- the edges that an answer reports: the value of an advance's answer, whose case is 7
abbrev pub edges_told : Told → ℕ
edges_told t = cond (eqb (get_or t.values 0 0) 7) (get_or t.values 1 0) 0

unfoldable pub edges_in : List Told → ℕ
edges_in [] = 0
edges_in (t ∷ ts) = edges_told t + edges_in ts
