-- `Tlb::scan` finds the lowest match, and whether there is another.
use Rattle.std.proofs.Common.{◌≡◌, drop}
use Rattle.tlb.specs.Table.{matching}
use Rattle.tlb.proofs.Scanning.{kept}
use Rattle.tlb.proofs.table.Tlb.scan.Given as goal

-- the matches are the one in hand, if there is one, and then those of the entries from i up
abbrev pub invariant-loop-i : goal.invariant-loop-i
invariant-loop-i l =
    matching l.fn.self.entries l.vaddr l.asid 0 ≡ kept l.found (matching (drop l.i l.fn.self.entries) l.vaddr l.asid l.i)
