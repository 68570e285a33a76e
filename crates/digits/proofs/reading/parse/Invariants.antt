-- `reading::parse` is the word's number: that of the digits passed, and then of those that are left. i digits are below 16
-- to the i, so 16 of them fit.
use mathlib.Core.Path.{◌≡◌}
use Prim.Native.Nat.{◌<◌, ◌^◌}
use lib.ListN.{drop}
use Rattle.digits.proofs.ReadingLaws.{after}
use Rattle.digits.proofs.reading.parse.Given as goal

abbrev pub invariant-loop-b : goal.invariant-loop-b
invariant-loop-b l = (l.value < 16 ^ l.b-index) × (after 0 l.word ≡ after l.value (drop l.b-index l.word))
