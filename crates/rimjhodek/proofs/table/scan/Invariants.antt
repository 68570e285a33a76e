-- Eight entries to a turn; what is held is what the entries before give.
use Rattle.std.proofs.Common.{◌*◌, ◌-◌, ◌≤◌}
use Rattle.rimjhodek.proofs.Scanning.{Held}
use Rattle.rimjhodek.proofs.table.scan.Given as goal

abbrev pub invariant-loop-k : goal.invariant-loop-k
invariant-loop-k l = (l.k ≤ 4) × Held l.tlb l.vaddr l.asid (8 * l.k) l.found

abbrev pub decreases-loop-k : goal.decreases-loop-k
decreases-loop-k l = 4 - l.k
