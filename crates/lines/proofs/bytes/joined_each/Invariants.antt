-- `bytes::joined_each` joins byte after byte: the number of those passed, and then of those that are left.
use mathlib.Core.Path.{◌≡◌}
use Prim.Native.Nat.{◌<◌, ◌^◌}
use lib.ListN.{drop}
use Rattle.lines.specs.Bytes.{joined, big_endian}
use Rattle.lines.proofs.bytes.joined_each.Given as goal

abbrev pub invariant-loop-b : goal.invariant-loop-b
invariant-loop-b l = (l.value < 256 ^ l.b-index) × (big_endian l.bytes ≡ joined l.value (drop l.b-index l.bytes))
