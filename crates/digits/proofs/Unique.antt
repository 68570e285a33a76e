-- No second outcome fits the contract of any public operation: shown on the contracts as the checker reads them. An outcome is the
-- answer and the final contents of a part that was lent to be changed.
use mathlib.Core.Path.{◌≡◌}
use mathlib.Core.Bool.{Bool}
use Prim.Native.Nat.{ℕ}
use contract.Lifetimes as Lifetimes
use borrow.Fn.World as World
use Rattle.std.proofs.Common.{Option}
use Rattle.bits.proofs.Same.{same}
use Rattle.digits.proofs.Answers.{digit_one, number_one}
use Rattle.digits.proofs.reading.digit.Reads as digit
use Rattle.digits.specs.contracts.reading.parse as parse
use Rattle.digits.proofs.reading.parse.Reads as parse_reads
use Rattle.digits.specs.contracts.writing.put as put
use Rattle.digits.proofs.writing.put.Reads as put_reads

pub digit_unique : (a : ℕ × Unit {0}) (r r' : Option ℕ) → digit.Post tt a r a → digit.Post tt a r' a → r ≡ r'
digit_unique a r r' p q = digit_one r r' (same p q)

pub parse_unique : (κs : Lifetimes.Lfts 1) (a : World.ArgsD parse.signature κs) (r r' : Option ℕ) (s s' : _)
    → parse_reads.Post κs a r s → parse_reads.Post κs a r' s' → r ≡ r'
parse_unique κs a r r' s s' p q = number_one r r' (same p q)

pub put_unique : (κs : Lifetimes.Lfts 1) (a : World.ArgsD put.signature κs) (r r' : Bool) (s s' : _)
    → put_reads.Post κs a r s → put_reads.Post κs a r' s' → (r ≡ r') × (s.0.now ≡ s'.0.now)
put_unique κs a r r' s s' p q = (same p.0 q.0, same p.1 q.1)
