-- The words are cleared, and then filled entry by entry.
use Rattle.std.proofs.Common.{◌≡◌, ◌-◌, ◌≤◌, replicate}
use Rattle.rimjhodek.proofs.Entering.{fresh_entries}
use Rattle.rimjhodek.proofs.moves.rimjhodek_tlb_new.Given as goal

abbrev pub invariant-loop-i : goal.invariant-loop-i
invariant-loop-i l = (l.i ≤ 32) × (l.tlb ≡ fresh_entries l.i (replicate 132 0))

abbrev pub decreases-loop-i : goal.decreases-loop-i
decreases-loop-i l = 32 - l.i
