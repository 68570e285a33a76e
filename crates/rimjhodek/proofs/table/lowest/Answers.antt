-- One entry after another, up to the first that matches.
use Rattle.std.proofs.Common.{arith, rules, lt-ltb}
use Rattle.rimjhodek.proofs.Looking.{lowest_here, lowest_past, lowest_nowhere}
use Rattle.rimjhodek.proofs.table.lowest.Goals as goal

pub returns-then-entry_hits : goal.returns-then-entry_hits
returns-then-entry_hits c =
    let a = c.args in
    let e =
    lowest_here a.tlb.now a.vaddr a.asid (search rules) _ c.key_of-key.ensures c.loop-i.i
    c.loop-i-test.true c.loop-i.invariant.1 _ c.entry_hits.ensures c.if-entry_hits.true in
    rw (← e, lt-ltb _ _ c.loop-i-test.true)

pub loop-i-preserved : goal.loop-i-preserved
loop-i-preserved c =
    let a = c.args in
    let below = c.loop-i-test.true in (
      omega arith,
      lowest_past a.tlb.now a.vaddr a.asid (search rules) _ c.key_of-key.ensures c.loop-i.i
          below c.loop-i.invariant.1 _ c.entry_hits.ensures c.if-entry_hits.false,
    )

pub returns : goal.returns
returns c =
    let a = c.args in
    rw (← lowest_nowhere a.tlb.now a.vaddr a.asid c.loop-i.i (omega (arith, c.loop-i-test.false)) c.loop-i.invariant.1)
