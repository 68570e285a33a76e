-- `bytes::joined_each` joins byte after byte: the number of those passed, and then of those that are left.
use mathlib.Core.Path.{◌∙◌, sym}
use Prim.Native.Nat.{◌<◌}
use native.Mathlib.Omega.{arith}
use lib.ListN.{get_or}
use Rattle.lines.proofs.ByteLaws.{grown, fits, joined_last, joined_more}
use Rattle.lines.proofs.bytes.joined_each.Goals as goal

pub overflow_mul-value : goal.overflow_mul-value
overflow_mul-value c =
    let l = c.loop-b in
    record { fits = omega (arith, fits l.value l.b-index 0 l.invariant.0 (omega arith) (omega arith)) }

pub loop-b-preserved : goal.loop-b-preserved
loop-b-preserved c =
    let l = c.loop-b in
    let bytes = c.args.bytes.now in
    let byte : get_or bytes l.b-index 0 < 256 = omega (arith, c.type_inv.bytes l.b-index) in
    (grown l.value l.b-index _ l.invariant.0 byte, l.invariant.1 ∙ joined_more l.value l.b-index bytes (omega arith))

pub returns : goal.returns
returns c =
    let l = c.loop-b in
    sym (l.invariant.1 ∙ joined_last l.value l.b-index c.args.bytes.now (omega arith))
