-- `Cop0::advance` moves the clock, steps Random, asks the timer and raises its bit.
use Rattle.std.proofs.Common.{refl, rules, le-ltb}
use Rattle.cop0.specs.Advance.{advance_told, advance_of}
use Rattle.cop0.proofs.Timer.{advances}
use Rattle.cop0.proofs.registers.Cop0.advance.Goals as goal

pub returns-then-counts-ge4294967296 : goal.returns-then-counts-ge4294967296
unfolding advance_told advance_of
returns-then-counts-ge4294967296 c = simp (le-ltb _ _ c.if-counts-ge4294967296.true) (refl, refl)

pub returns-then-edge : goal.returns-then-edge
returns-then-edge c =
    simp c.set_ip.ensures
    (simp c.if-edge.true at
    (advances c.args.self _ _ _ _ _ (search rules)
    refl c.tick_random_by.ensures c.timer_edge-polled.ensures))

pub returns : goal.returns
returns c =
    simp c.if-edge.false at
    (advances c.args.self _ _ _ _ _ (search rules)
    refl c.tick_random_by.ensures c.timer_edge-polled.ensures)
