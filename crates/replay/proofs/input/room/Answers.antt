-- `input::room` is as long as it says. Every argument is written out, so that antt compares the two sides as they stand
-- and computes no list of a million elements.
use Rattle.std.proofs.Common.{ℕ, sym}
use Rattle.std.proofs.lemmas.List.{length-replicate}
use Rattle.replay.proofs.input.room.Goals as goal

pub returns : goal.returns
returns c = sym (length-replicate {0} {A = ℕ} 1048577 0)
