-- An advance cut in consecutive pieces, and the single-tick machine under any order of its ticks and steps.
use Rattle.std.specs.Prelude.{ℕ, suc, ◌+◌, List, [], ◌∷◌}
use Rattle.bits.specs.Field.{bit}
use Rattle.bits.specs.Told.{Told}
use Rattle.cop0.specs.declared.registers.Cop0.{Cop0}
use Rattle.cop0.specs.Random.{tick_random_of}
use Rattle.cop0.specs.Advance.{advance_told, advance_of}
use Rattle.cop0.specs.Machine.{one_tick, becomes}

pub record Piece : Type 0 where
  pub counts : ℕ
  pub moves : ℕ

unfoldable pub all_counts : List Piece → ℕ
all_counts [] = 0
all_counts (p ∷ ps) = p.counts + all_counts ps

unfoldable pub all_moves : List Piece → ℕ
all_moves [] = 0
all_moves (p ∷ ps) = p.moves + all_moves ps

abbrev pub sum : List ℕ → ℕ
sum [] = 0
sum (v ∷ vs) = v + sum vs

-- the edges that an answer reports: its value; a refusal has none
abbrev pub reported : Told → ℕ
reported t = sum t.values

-- the state after the pieces, one advance each, and the edges that they report
unfoldable pub runs : List Piece → Cop0 → Cop0
runs [] c = c
runs (p ∷ ps) c = runs ps (advance_of c p.counts p.moves)

unfoldable pub run_edges : List Piece → Cop0 → ℕ
run_edges [] c = 0
run_edges (p ∷ ps) c = reported (advance_told c p.counts p.moves) + run_edges ps (advance_of c p.counts p.moves)

pub data Move : Type 0 where
  tick : Move
  step : Move

unfoldable pub ticks_in : List Move → ℕ
ticks_in [] = 0
ticks_in (tick ∷ ms) = suc (ticks_in ms)
ticks_in (step ∷ ms) = ticks_in ms

unfoldable pub steps_in : List Move → ℕ
steps_in [] = 0
steps_in (tick ∷ ms) = steps_in ms
steps_in (step ∷ ms) = suc (steps_in ms)

unfoldable pub play : List Move → Cop0 → Cop0
play [] c = c
play (tick ∷ ms) c = play ms (one_tick c)
play (step ∷ ms) c = play ms (tick_random_of c)

unfoldable pub play_edges : List Move → Cop0 → ℕ
play_edges [] c = 0
play_edges (tick ∷ ms) c = bit (becomes c) + play_edges ms (one_tick c)
play_edges (step ∷ ms) c = play_edges ms (tick_random_of c)
