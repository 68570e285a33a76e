-- Eight entries to a turn; what is held is what the entries before give.
use Rattle.std.proofs.Common.{◌+◌, ◌*◌, arith, rules}
use Rattle.rimjhodek.proofs.Scanning.{begin, step, finish}
use Rattle.rimjhodek.proofs.table.scan.Goals as goal

pub loop-k-init : goal.loop-k-init
loop-k-init c =
    let a = c.args in
    (omega arith, begin a.tlb.now a.vaddr a.asid)

pub loop-k-preserved : goal.loop-k-preserved
loop-k-preserved c =
    let a = c.args in
    let k = c.key_of-key.ensures in
    let i = 8 * c.loop-k.k in
    let below = c.loop-k-test.true in
    let one = step a.tlb.now a.vaddr a.asid (search rules) _ k in
    let h₁ = one i (i + 1) _ _ _ (omega arith) (omega arith) (omega arith) c.turn-found.ensures c.loop-k.invariant.1 in
    let h₂ = one (i + 1) (i + 2) _ _ _ (omega arith) (omega arith) (omega arith) c.turn-found-in-loop-k.ensures h₁ in
    let h₃ = one (i + 2) (i + 3) _ _ _ (omega arith) (omega arith) (omega arith) c.turn-found-in-loop-k-2.ensures h₂ in
    let h₄ = one (i + 3) (i + 4) _ _ _ (omega arith) (omega arith) (omega arith) c.turn-found-in-loop-k-3.ensures h₃ in
    let h₅ = one (i + 4) (i + 5) _ _ _ (omega arith) (omega arith) (omega arith) c.turn-found-in-loop-k-4.ensures h₄ in
    let h₆ = one (i + 5) (i + 6) _ _ _ (omega arith) (omega arith) (omega arith) c.turn-found-in-loop-k-5.ensures h₅ in
    let h₇ = one (i + 6) (i + 7) _ _ _ (omega arith) (omega arith) (omega arith) c.turn-found-in-loop-k-6.ensures h₆ in
    (omega arith, one (i + 7) (8 * (c.loop-k.k + 1)) _ _ _ (omega arith) (omega arith) (omega arith) c.turn-found-in-loop-k-7.ensures h₇)

pub returns : goal.returns
returns c =
    let a = c.args in
    finish a.tlb.now a.vaddr a.asid (8 * c.loop-k.k) c.loop-k.found (omega (arith, c.loop-k-test.false)) c.loop-k.invariant.1
