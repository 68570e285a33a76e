-- THE CLOCK IN A ROOM. Members cut the same time into different advances, between the same other operations, and must stay
-- equal. The definitions are in specs/: a run (`Run`), what an operation does (`Step`), the plain machine (`Plain`). All of it holds
-- from every start that is steady, as a fresh session is, and every session that operations lead to from one.
--
-- 1. Every run keeps what the clock needs: `run_steady` in `Keeping`.
-- 2. One advance may be cut in pieces with the same totals: `same_session`, `same_before`, `same_after`, `same_edges` and
--    `none_or_one`. No pieces at all, pieces of zero, a cut that falls on Compare and a cut where Count wraps are among the
--    lists of pieces that they speak of. Counts are below 2^32 in all; steps of Random may be any number, and so any that a
--    u64 holds.
-- 3. Every run is the plain machine's, which moves Count one tick and Random one step at a time: `run_is_plain`; and an advance is the
--    machine's ticks and steps in any order: `any_order` and `any_order_edges`.
-- 4. What calls of `step` return, one after the other, is all this: `called_plain` and `called_parts`, by the contract of `step` alone.
--
-- The first use is the fresh session: `every_run_is_plain`, `fresh_alike`.
use mathlib.Core.Path.{◌≡◌, refl, ap, ap₂, sym, subst, ◌∙◌}
use mathlib.Core.Bool.{Bool, true, false, cond}
use mathlib.Core.List.{List, [], ◌∷◌, ◌++◌}
use Prim.Native.Nat.{ℕ, ◌+◌, ◌^◌, ◌<◌, ◌≤◌}
use native.Mathlib.Nat.{zero-add, add-zero, add_assoc}
use native.Mathlib.Omega.{arith}
use lib.Dec.{T, ltb, ltb→lt}
use Rattle.bits.specs.Field.{bit}
use Rattle.bits.specs.Told.{Told, answered, refused}
use Rattle.cop0.specs.declared.registers.Cop0.{Cop0}
use Rattle.cop0.specs.Clock.{edge_of}
use Rattle.cop0.specs.Advance.{moved, advance_told, advance_of}
use Rattle.cop0.specs.Machine.{ticks, edges, steps, Steady}
use Rattle.cop0.specs.Cut.{Piece, all_counts, all_moves, reported, runs, run_edges, Move, ticks_in, steps_in, play, play_edges}
use Rattle.cop0.proofs.Machine.{advance_is, answer_is, advance_refused, answer_refused}
use Rattle.cop0.proofs.Cut.{cut_state, cut_edges}
use Rattle.cop0.proofs.Cut as cut_laws
use Rattle.cop0.proofs.Steady.{steady_six, fresh_steady}
use Rattle.session.specs.declared.session.Session.{Session}
use Rattle.session.specs.declared.session.Stepped.{Stepped}
use Rattle.session.specs.declared.op.Op.{Op}
use Rattle.session.specs.declared.op.Op.TheVariants as op
use Rattle.session.specs.Record.{fresh, with_cop0}
use Rattle.session.specs.Answers.{of_case}
use Rattle.session.specs.Step.{Outcome, told, step_by, advance_by, step_of}
use Rattle.session.specs.Run.{Ran, preceded, run_by, run, Parts, in_parts, advances, edges_told, edges_in}
use Rattle.session.specs.Plain.{plain_advance, plain_run}
use Rattle.session.proofs.Effects.{Does, Does.an_advance, Does.other, does}
use Rattle.session.proofs.Keeping.{step_steady, run_steady}
use Rattle.session.proofs.Calls.{Called, ran, calls_are_the_run}

-- an advance is the plain machine's ticks and steps
module _ (s : Session) (k : Steady s.cop0) (n m : ℕ) where
  abbrev c : Cop0
  c = s.cop0

  -- the record, on which the theorem of the register file asks for no more than six bits of Random
  moves_are : n < 2 ^ 32 → advance_of c n m ≡ steps m (ticks n c)
  moves_are h = advance_is c k.kept n m h ∙ ap (λ (d : Cop0). steps m (ticks n d)) (steady_six c k)

  by_limit : (b : Bool) → ltb n (2 ^ 32) ≡ b
      → advance_by n m s ≡ cond b (told (answered (7 ∷ edges n c ∷ [])) (with_cop0 s (steps m (ticks n c)))) (told (refused 5) s)
  by_limit true e =
      let h : n < 2 ^ 32 = ltb→lt n (2 ^ 32) (subst T (sym e) tt) in
      ap₂ (λ (t : Told) (d : Cop0). told (of_case 7 t) (with_cop0 s d)) (answer_is c k.kept n m h) (moves_are h)
  by_limit false e =
      ap₂ (λ (t : Told) (d : Cop0). told (of_case 7 t) (with_cop0 s d)) (answer_refused c n m e) (advance_refused c n m e)

  advance_plain : advance_by n m s ≡ plain_advance n m s
  unfolding plain_advance
  advance_plain = by_limit (ltb n (2 ^ 32)) refl

-- and no other operation goes by the rule for advances
by_rule : {o : Op} → Does o → (s : Session) → Steady s.cop0 → step_of o s ≡ step_by plain_advance o s
by_rule (an_advance n m) s k = advance_plain s k n m
by_rule (other same registers table) s k = same advance_by plain_advance s

step_plain : (o : Op) (s : Session) → Steady s.cop0 → step_of o s ≡ step_by plain_advance o s
step_plain o s k = by_rule (does o) s k

-- THE PLAIN MACHINE: every run ends in its session and gives its answers, of which an advance's is the number of ticks on which
-- Count became Compare
pub run_is_plain : (os : List Op) (s : Session) → Steady s.cop0 → run os s ≡ plain_run os s
unfolding run_by
run_is_plain [] s k = refl
run_is_plain (o ∷ os) s k =
    ap (preceded (step_of o s).answer) (run_is_plain os (step_of o s).session (step_steady o s k))
    ∙ ap (λ (p : Outcome). preceded p.answer (plain_run os p.session)) (step_plain o s k)

-- pieces, one advance each, on the session and on its record
run_advances : (ps : List Piece) (s : Session) → (run (advances ps) s).session ≡ with_cop0 s (runs ps s.cop0)
unfolding run_by advances runs
run_advances [] s = refl
run_advances (p ∷ ps) s = run_advances ps (advance_by p.counts p.moves s).session

-- an advance's answer reports the same edges here and there
told_edges : (b e : Bool)
    → edges_told (of_case 7 (cond b (answered (bit e ∷ [])) (refused 5))) ≡ reported (cond b (answered (bit e ∷ [])) (refused 5))
told_edges true e = sym (add-zero (bit e))
told_edges false e = refl

advance_edges : (c : Cop0) (n m : ℕ) → edges_told (of_case 7 (advance_told c n m)) ≡ reported (advance_told c n m)
unfolding advance_told
advance_edges c n m = told_edges (ltb n (2 ^ 32)) (edge_of (moved c n m))

edges_advances : (ps : List Piece) (s : Session) → edges_in (run (advances ps) s).answers ≡ run_edges ps s.cop0
unfolding run_by advances edges_in run_edges
edges_advances [] s = refl
edges_advances (p ∷ ps) s =
    ap₂ (λ (a b : ℕ). a + b)
    (advance_edges s.cop0 p.counts p.moves)
    (edges_advances ps (advance_by p.counts p.moves s).session)

-- the pieces against one advance with their totals; no pieces are an advance of nothing
total_state : (ps : List Piece) (s : Session) → Steady s.cop0 → all_counts ps < 2 ^ 32
    → runs ps s.cop0 ≡ advance_of s.cop0 (all_counts ps) (all_moves ps)
unfolding runs all_counts all_moves ticks steps
total_state [] s k h = sym (moves_are s k 0 0 (omega arith))
total_state (p ∷ ps) s k h = cut_state p ps s.cop0 k.kept h

total_edges : (ps : List Piece) (s : Session) → Steady s.cop0 → all_counts ps < 2 ^ 32
    → run_edges ps s.cop0 ≡ reported (advance_told s.cop0 (all_counts ps) (all_moves ps))
unfolding run_edges all_counts all_moves edges
total_edges [] s k h = sym (ap reported (answer_is s.cop0 k.kept 0 0 (omega arith)))
total_edges (p ∷ ps) s k h = cut_edges p ps s.cop0 k.kept h

-- runs of joined lists
run_joined : (os ps : List Op) (s : Session)
    → run (os ++ ps) s
    ≡ record { session = (run ps (run os s).session).session; answers = (run os s).answers ++ (run ps (run os s).session).answers }
unfolding run_by
run_joined [] ps s = refl
run_joined (o ∷ os) ps s = ap (preceded (step_of o s).answer) (run_joined os ps (step_of o s).session)

-- three parts as one run
abbrev pub in_one : Parts → Ran
in_one p = record { session = p.session; answers = p.before ++ (p.between ++ p.after) }

-- the parts of a run are the run of the three lists as one
pub parts_are : (os ps qs : List Op) (s : Session)
    → run (os ++ (ps ++ qs)) s ≡ in_one (in_parts os ps qs s)
parts_are os ps qs s =
    run_joined os (ps ++ qs) s
    ∙ ap (λ (r : Ran). record { session = r.session; answers = (run os s).answers ++ r.answers })
    (run_joined ps qs (run os s).session)

-- the edges of joined answers
edges_joined : (ts us : List Told) → edges_in (ts ++ us) ≡ edges_in ts + edges_in us
unfolding edges_in
edges_joined [] us = sym (zero-add (edges_in us))
edges_joined (t ∷ ts) us = ap (λ (n : ℕ). edges_told t + n) (edges_joined ts us) ∙ sym (add_assoc (edges_told t) (edges_in ts) (edges_in us))

edges_of : (p : Parts) → edges_in (in_one p).answers ≡ edges_in p.before + (edges_in p.between + edges_in p.after)
edges_of p = edges_joined p.before (p.between ++ p.after) ∙ ap (λ (n : ℕ). edges_in p.before + n) (edges_joined p.between p.after)

-- THE CUT: from a steady start, for all that came before and all that comes after, one advance and its pieces
module _ (start : Session) (k : Steady start.cop0) (before after : List Op) (ps : List Piece) (small : all_counts ps < 2 ^ 32) where
  abbrev pub n : ℕ
  n = all_counts ps

  abbrev pub m : ℕ
  m = all_moves ps

  -- running before, one advance, after; and running before, the pieces, after
  abbrev pub one : Parts
  one = in_parts before (op.Advance n m ∷ []) after start

  abbrev pub cut : Parts
  cut = in_parts before (advances ps) after start

  -- where the clock is moved
  abbrev at : Session
  at = (run before start).session

  steady : Steady at.cop0
  steady = run_steady before start k

  -- one advance leaves the session that the pieces leave
  moved_alike : (run (op.Advance n m ∷ []) at).session ≡ (run (advances ps) at).session
  unfolding run_by
  moved_alike = ap (with_cop0 at) (sym (total_state ps at steady small)) ∙ sym (run_advances ps at)

  pub same_session : one.session ≡ cut.session
  same_session = ap (λ (s : Session). (run after s).session) moved_alike

  pub same_before : one.before ≡ cut.before
  same_before = refl

  pub same_after : one.after ≡ cut.after
  same_after = ap (λ (s : Session). (run after s).answers) moved_alike

  -- and both end where the plain machine does after the one advance
  pub plain_session : cut.session ≡ (plain_run (before ++ (op.Advance n m ∷ after)) start).session
  plain_session =
      sym same_session
      ∙ ap (λ (r : Ran). r.session)
      (sym (parts_are before (op.Advance n m ∷ []) after start) ∙ run_is_plain (before ++ (op.Advance n m ∷ after)) start k)

  -- the edges reported are those of the plain machine
  one_edges : edges_in one.between ≡ reported (advance_told at.cop0 n m)
  unfolding run_by edges_in
  one_edges = add-zero _ ∙ advance_edges at.cop0 n m

  pub same_edges : edges_in one.between ≡ edges_in cut.between
  same_edges = one_edges ∙ sym (edges_advances ps at ∙ total_edges ps at steady small)

  -- and so are all that the two runs report
  pub all_edges : edges_in (in_one one).answers ≡ edges_in (in_one cut).answers
  all_edges =
      edges_of one
      ∙ ap₂ (λ (a b : ℕ). edges_in one.before + (a + b)) same_edges (ap edges_in same_after)
      ∙ sym (edges_of cut)

  pub plain_edges : edges_in one.between ≡ edges n at.cop0
  plain_edges = one_edges ∙ ap reported (answer_is at.cop0 steady.kept n m small) ∙ add-zero (edges n at.cop0)

  -- none, or one
  at_most_one : (b e : Bool) → reported (cond b (answered (bit e ∷ [])) (refused 5)) ≤ 1
  at_most_one true true = omega arith
  at_most_one true false = omega arith
  at_most_one false e = omega arith

  pub none_or_one : edges_in one.between ≤ 1
  unfolding advance_told
  none_or_one = subst (λ (x : ℕ). x ≤ 1) (sym one_edges) (at_most_one (ltb n (2 ^ 32)) (edge_of (moved at.cop0 n m)))

  -- members who call `step`: what it returned of the one list and of the other are these parts
  pub called_parts : (rs rs' : List Stepped) → Called (before ++ (op.Advance n m ∷ after)) start rs
      → Called (before ++ (advances ps ++ after)) start rs'
      → (ran start rs ≡ in_one one) × (ran start rs' ≡ in_one cut)
  called_parts rs rs' c c' = (
    calls_are_the_run (before ++ (op.Advance n m ∷ after)) start rs c ∙ parts_are before (op.Advance n m ∷ []) after start,
    calls_are_the_run (before ++ (advances ps ++ after)) start rs' c' ∙ parts_are before (advances ps) after start,
  )

-- calls of `step` are the plain machine's run
pub called_plain : (os : List Op) (s : Session) → Steady s.cop0 → (rs : List Stepped) → Called os s rs → ran s rs ≡ plain_run os s
called_plain os s k rs c = calls_are_the_run os s rs c ∙ run_is_plain os s k

-- an advance is as many ticks and steps of the machine, whatever their order
module _ (ms : List Move) (s : Session) (k : Steady s.cop0) (small : ticks_in ms < 2 ^ 32) where
  pub any_order : (step_of (op.Advance (ticks_in ms) (steps_in ms)) s).session ≡ with_cop0 s (play ms s.cop0)
  any_order = ap (with_cop0 s) (cut_laws.any_order ms s.cop0 k.kept small ∙ ap (play ms) (steady_six s.cop0 k))

  pub any_order_edges : edges_told (step_of (op.Advance (ticks_in ms) (steps_in ms)) s).answer ≡ play_edges ms s.cop0
  any_order_edges = advance_edges s.cop0 (ticks_in ms) (steps_in ms) ∙ cut_laws.any_order_edges ms s.cop0 k.kept small

-- THE FRESH SESSION is the first such start
pub every_run_is_plain : (os : List Op) → run os fresh ≡ plain_run os fresh
every_run_is_plain os = run_is_plain os fresh fresh_steady

module _ (before after : List Op) (ps : List Piece) (small : all_counts ps < 2 ^ 32) where
  pub fresh_alike : ((one fresh fresh_steady before after ps small).session ≡ (cut fresh fresh_steady before after ps small).session)
      × ((one fresh fresh_steady before after ps small).after ≡ (cut fresh fresh_steady before after ps small).after)
      × (edges_in (one fresh fresh_steady before after ps small).between ≡ edges_in (cut fresh fresh_steady before after ps small).between)
  fresh_alike = (
    same_session fresh fresh_steady before after ps small,
    same_after fresh fresh_steady before after ps small,
    same_edges fresh fresh_steady before after ps small,
  )
