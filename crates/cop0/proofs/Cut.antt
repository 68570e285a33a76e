-- An advance cut in consecutive pieces with the same totals: the same record and the same number of edges, those of the
-- single-tick machine. The scope's demand 3, for the register file.
use Rattle.std.proofs.Common.{◌≡◌, ℕ, ◌+◌, ◌^◌, ◌<◌, List, [], ◌∷◌, sym, refl, ap, ◌∙◌, add-zero, arith}
use Rattle.bits.specs.Field.{bit}
use Rattle.cop0.specs.declared.registers.Cop0.{Cop0}
use Rattle.cop0.specs.Random.{tick_random_of}
use Rattle.cop0.specs.Advance.{advance_told, advance_of}
use Rattle.cop0.specs.Machine.{one_tick, becomes, ticks, edges, steps, six_bit, Kept}
use Rattle.cop0.specs.Cut.{
  Piece,
  all_counts,
  all_moves,
  reported,
  runs,
  run_edges,
  Move,
  Move.tick,
  Move.step,
  ticks_in,
  steps_in,
  play,
  play_edges,
}
use Rattle.cop0.proofs.Machine.{six_kept, six_six, edges_six, advance_is, answer_is, advance_six, answer_six}
use Rattle.cop0.proofs.Order.{
  ticks_step,
  ticks_steps,
  edges_step,
  edges_steps,
  ticks_add,
  steps_add,
  edges_add,
  ticks_kept,
  steps_kept,
  ticks_six,
  steps_six,
}

-- an advance reports the machine's edges
reported_is : (c : Cop0) → Kept c → (n m : ℕ) → n < 2 ^ 32 → reported (advance_told c n m) ≡ edges n c
reported_is c k n m h = ap reported (answer_is c k n m h) ∙ add-zero (edges n c)

-- pieces are as many ticks and steps as they have between them
runs_are : (ps : List Piece) (c : Cop0) → Kept c → six_bit c ≡ c → all_counts ps < 2 ^ 32
    → runs ps c ≡ steps (all_moves ps) (ticks (all_counts ps) c)
unfolding runs all_counts all_moves steps ticks
runs_are [] c k e h = refl
runs_are (p ∷ ps) c k e h =
    let n : ℕ = p.counts in
    let m : ℕ = p.moves in
    let c' : Cop0 = steps m (ticks n c) in
    let k' : Kept (ticks n c) = ticks_kept n c k in
    ap (runs ps) (advance_is c k n m (omega arith) ∙ ap (λ (s : Cop0). steps m (ticks n s)) e)
    ∙ runs_are ps c' (steps_kept m (ticks n c) k') (steps_six m (ticks n c) k' (ticks_six n c e)) (omega arith)
    ∙ ap (steps (all_moves ps)) (ticks_steps m (all_counts ps) (ticks n c))
    ∙ sym (steps_add m (all_moves ps) (ticks (all_counts ps) (ticks n c)))
    ∙ ap (steps (m + all_moves ps)) (sym (ticks_add n (all_counts ps) c))

run_edges_are : (ps : List Piece) (c : Cop0) → Kept c → six_bit c ≡ c → all_counts ps < 2 ^ 32
    → run_edges ps c ≡ edges (all_counts ps) c
unfolding run_edges all_counts edges
run_edges_are [] c k e h = refl
run_edges_are (p ∷ ps) c k e h =
    let n : ℕ = p.counts in
    let m : ℕ = p.moves in
    let k' : Kept (ticks n c) = ticks_kept n c k in
    rw (reported_is c k n m (omega arith), advance_is c k n m (omega arith), e)
    (ap (λ (x : ℕ). edges n c + x)
    (run_edges_are ps (steps m (ticks n c)) (steps_kept m (ticks n c) k') (steps_six m (ticks n c) k' (ticks_six n c e)) (omega arith)
    ∙ edges_steps m (all_counts ps) (ticks n c))
    ∙ sym (edges_add n (all_counts ps) c))

-- THE CUT: on every kept record, pieces in place of one advance with their totals
module _ (p : Piece) (ps : List Piece) (c : Cop0) (k : Kept c) (h : all_counts (p ∷ ps) < 2 ^ 32) where
  small : p.counts < 2 ^ 32
  unfolding all_counts
  small = omega arith

  pub cut_state : runs (p ∷ ps) c ≡ advance_of c (all_counts (p ∷ ps)) (all_moves (p ∷ ps))
  unfolding runs
  cut_state =
      ap (runs ps) (advance_six c k p.counts p.moves small)
      ∙ runs_are (p ∷ ps) (six_bit c) (six_kept c k) (six_six c k) h
      ∙ sym (advance_is c k (all_counts (p ∷ ps)) (all_moves (p ∷ ps)) h)

  pub cut_edges : run_edges (p ∷ ps) c ≡ reported (advance_told c (all_counts (p ∷ ps)) (all_moves (p ∷ ps)))
  unfolding run_edges
  cut_edges =
      rw (answer_six c k p.counts p.moves small, advance_six c k p.counts p.moves small)
      (run_edges_are (p ∷ ps) (six_bit c) (six_kept c k) (six_six c k) h)
      ∙ edges_six c k (all_counts (p ∷ ps)) h
      ∙ sym (reported_is c k (all_counts (p ∷ ps)) (all_moves (p ∷ ps)) h)

-- the machine, whatever the order of its ticks and steps
play_is : (ms : List Move) (c : Cop0) → play ms c ≡ steps (steps_in ms) (ticks (ticks_in ms) c)
unfolding play steps_in ticks_in steps ticks
play_is [] c = refl
play_is (tick ∷ ms) c = play_is ms (one_tick c)
play_is (step ∷ ms) c = play_is ms (tick_random_of c) ∙ ap (steps (steps_in ms)) (ticks_step (ticks_in ms) c)

play_edges_are : (ms : List Move) (c : Cop0) → play_edges ms c ≡ edges (ticks_in ms) c
unfolding play_edges ticks_in edges
play_edges_are [] c = refl
play_edges_are (tick ∷ ms) c = ap (λ (e : ℕ). bit (becomes c) + e) (play_edges_are ms (one_tick c))
play_edges_are (step ∷ ms) c = play_edges_are ms (tick_random_of c) ∙ edges_step (ticks_in ms) c

-- an advance is the machine under any order of that many ticks and steps
module _ (ms : List Move) (c : Cop0) (k : Kept c) (h : ticks_in ms < 2 ^ 32) where
  pub any_order : advance_of c (ticks_in ms) (steps_in ms) ≡ play ms (six_bit c)
  any_order = advance_is c k (ticks_in ms) (steps_in ms) h ∙ sym (play_is ms (six_bit c))

  pub any_order_edges : reported (advance_told c (ticks_in ms) (steps_in ms)) ≡ play_edges ms c
  any_order_edges = reported_is c k (ticks_in ms) (steps_in ms) h ∙ sym (play_edges_are ms c)
