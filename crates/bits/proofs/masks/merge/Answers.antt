-- `bits::merge` takes each bit from `x` or from `y`.
use Rattle.std.proofs.Common.{rules}
use Rattle.bits.proofs.MaskLaws.{merges}
use Rattle.bits.proofs.masks.merge.Goals as goal

pub returns : goal.returns
returns c = merges 64 c.args.mask c.args.x c.args.y (search rules) (search rules) (search rules)
