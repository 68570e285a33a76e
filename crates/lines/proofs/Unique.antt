-- No second outcome fits the contract of any public function: shown on the contracts as the checker reads them. An outcome is the
-- answer, or the final bytes of a part that was lent to be changed.
use mathlib.Core.Path.{◌≡◌}
use mathlib.Core.List.{List}
use Prim.Native.Nat.{ℕ}
use contract.Lifetimes as Lifetimes
use borrow.Fn.World as World
use Rattle.std.proofs.Common.{Result, Fits, w64}
use Rattle.bits.proofs.Same.{same}
use Rattle.lines.specs.declared.access.Refusal.{Refusal}
use Rattle.lines.specs.Access.{check_number}
use Rattle.lines.proofs.AccessLaws.{check_one}
use Rattle.lines.specs.contracts.access.check as check
use Rattle.lines.proofs.access.check.Reads as check_reads
use Rattle.lines.proofs.access.Refusal.number.Reads as number
use Rattle.lines.specs.contracts.bytes.clear as clear
use Rattle.lines.proofs.bytes.clear.Reads as clear_reads
use Rattle.lines.specs.contracts.bytes.copy as copy
use Rattle.lines.proofs.bytes.copy.Reads as copy_reads
use Rattle.lines.proofs.bytes.line.Reads as line_reads
use Rattle.lines.specs.contracts.bytes.big_endian as big_endian
use Rattle.lines.proofs.bytes.big_endian.Reads as big_endian_reads
use Rattle.lines.specs.contracts.bytes.put_big_endian as put_big_endian
use Rattle.lines.proofs.bytes.put_big_endian.Reads as put_big_endian_reads

pub check_unique : (κs : Lifetimes.Lfts 0) (a : World.ArgsD check.signature κs) (r r' : Result (Unit {0}) Refusal) (s s' : _)
    → check_reads.Post κs a r s → check_reads.Post κs a r' s' → r ≡ r'
check_unique κs a r r' s s' p q = check_one r r' (same p q)

pub refusal_unique : (κs : Lifetimes.Lfts 0) (a : World.ArgsD check.signature κs) (r r' : Result (Unit {0}) Refusal) (s s' : _)
    → check_reads.Post κs a r s → check_reads.Post κs a r' s' → check_number r ≡ check_number r'
refusal_unique κs a r r' s s' p q = same p q

pub number_unique : (a : Refusal × Unit {0}) (r r' : ℕ) → number.Post tt a r a → number.Post tt a r' a → r ≡ r'
number_unique a r r' = same

pub clear_unique : (κs : Lifetimes.Lfts 1) (a : World.ArgsD clear.signature κs) (r r' : _) (s s' : _)
    → clear_reads.Post κs a r s → clear_reads.Post κs a r' s' → s.0.now ≡ s'.0.now
clear_unique κs a r r' s s' p q = same p q

pub copy_unique : (κs : Lifetimes.Lfts 2) (a : World.ArgsD copy.signature κs) (r r' : _) (s s' : _)
    → copy_reads.Post κs a r s → copy_reads.Post κs a r' s' → s.0.now ≡ s'.0.now
copy_unique κs a r r' s s' p q = same p q

-- of a line of any size, and so of a line of either cache
pub line_unique : (n : ℕ) (f : Fits w64 n) (κs : Lifetimes.Lfts 2) (a : _) (r r' : List ℕ) (s s' : _)
    → line_reads.Post n f κs a r s → line_reads.Post n f κs a r' s' → r ≡ r'
line_unique n f κs a r r' s s' p q = same p q

pub line16_unique : (f : Fits w64 16) (κs : Lifetimes.Lfts 2) (a : _) (r r' : List ℕ) (s s' : _)
    → line_reads.Post 16 f κs a r s → line_reads.Post 16 f κs a r' s' → r ≡ r'
line16_unique = line_unique 16

pub line32_unique : (f : Fits w64 32) (κs : Lifetimes.Lfts 2) (a : _) (r r' : List ℕ) (s s' : _)
    → line_reads.Post 32 f κs a r s → line_reads.Post 32 f κs a r' s' → r ≡ r'
line32_unique = line_unique 32

pub big_endian_unique : (κs : Lifetimes.Lfts 1) (a : World.ArgsD big_endian.signature κs) (r r' : ℕ) (s s' : _)
    → big_endian_reads.Post κs a r s → big_endian_reads.Post κs a r' s' → r ≡ r'
big_endian_unique κs a r r' s s' p q = same p q

pub put_big_endian_unique : (κs : Lifetimes.Lfts 1) (a : World.ArgsD put_big_endian.signature κs) (r r' : _) (s s' : _)
    → put_big_endian_reads.Post κs a r s → put_big_endian_reads.Post κs a r' s' → s.0.now ≡ s'.0.now
put_big_endian_unique κs a r r' s s' p q = same p q
