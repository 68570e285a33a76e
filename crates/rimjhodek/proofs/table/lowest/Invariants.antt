-- One entry after another, up to the first that matches.
use Rattle.std.proofs.Common.{◌-◌, ◌≤◌}
use Rattle.rimjhodek.proofs.Looking.{Ahead}
use Rattle.rimjhodek.proofs.table.lowest.Given as goal

abbrev pub invariant-loop-i : goal.invariant-loop-i
invariant-loop-i l = (l.i ≤ 32) × Ahead l.tlb l.vaddr l.asid l.i

abbrev pub decreases-loop-i : goal.decreases-loop-i
decreases-loop-i l = 32 - l.i
