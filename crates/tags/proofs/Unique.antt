-- No second outcome fits the contract of any public function: shown on the contracts as the checker reads them. An outcome is the
-- answer, or the final words of an array that was lent to be changed.
use mathlib.Core.Path.{◌≡◌}
use mathlib.Core.Bool.{Bool}
use Prim.Native.Nat.{ℕ}
use contract.Lifetimes as Lifetimes
use borrow.Fn.World as World
use Rattle.bits.proofs.Same.{same}
use Rattle.tags.specs.contracts.tag_word.is_hit as is_hit
use Rattle.tags.proofs.tag_word.is_hit.Reads as is_hit_reads
use Rattle.tags.specs.contracts.tag_word.leaves as leaves
use Rattle.tags.proofs.tag_word.leaves.Reads as leaves_reads
use Rattle.tags.specs.contracts.tag_word.displaced as displaced
use Rattle.tags.proofs.tag_word.displaced.Reads as displaced_reads
use Rattle.tags.specs.contracts.tag_word.resident as resident
use Rattle.tags.proofs.tag_word.resident.Reads as resident_reads
use Rattle.tags.specs.contracts.tag_word.taken as taken
use Rattle.tags.proofs.tag_word.taken.Reads as taken_reads
use Rattle.tags.specs.contracts.tag_word.marked as marked
use Rattle.tags.proofs.tag_word.marked.Reads as marked_reads
use Rattle.tags.specs.contracts.tag_word.invalid as invalid
use Rattle.tags.proofs.tag_word.invalid.Reads as invalid_reads
use Rattle.tags.specs.contracts.tag_word.flushed as flushed
use Rattle.tags.proofs.tag_word.flushed.Reads as flushed_reads
use Rattle.tags.specs.contracts.tag_word.tag_lo as tag_lo
use Rattle.tags.proofs.tag_word.tag_lo.Reads as tag_lo_reads
use Rattle.tags.specs.contracts.tag_word.stored as stored
use Rattle.tags.proofs.tag_word.stored.Reads as stored_reads
use Rattle.tags.specs.contracts.tag_array.is_whole as is_whole
use Rattle.tags.proofs.tag_array.is_whole.Reads as is_whole_reads
use Rattle.tags.specs.contracts.tag_array.index as index
use Rattle.tags.proofs.tag_array.index.Reads as index_reads
use Rattle.tags.specs.contracts.tag_array.start as start
use Rattle.tags.proofs.tag_array.start.Reads as start_reads
use Rattle.tags.specs.contracts.tag_array.word_at as word_at
use Rattle.tags.proofs.tag_array.word_at.Reads as word_at_reads
use Rattle.tags.specs.contracts.tag_array.word_for as word_for
use Rattle.tags.proofs.tag_array.word_for.Reads as word_for_reads
use Rattle.tags.specs.contracts.tag_array.replace as replace
use Rattle.tags.proofs.tag_array.replace.Reads as replace_reads
use Rattle.tags.specs.contracts.tag_array.clear as clear
use Rattle.tags.proofs.tag_array.clear.Reads as clear_reads

pub is_hit_unique : (κs : Lifetimes.Lfts 0) (a : World.ArgsD is_hit.signature κs) (r r' : Bool) (s s' : _)
    → is_hit_reads.Post κs a r s → is_hit_reads.Post κs a r' s' → r ≡ r'
is_hit_unique κs a r r' s s' p q = same p q

pub leaves_unique : (κs : Lifetimes.Lfts 0) (a : World.ArgsD leaves.signature κs) (r r' : Bool) (s s' : _)
    → leaves_reads.Post κs a r s → leaves_reads.Post κs a r' s' → r ≡ r'
leaves_unique κs a r r' s s' p q = same p q

pub displaced_unique : (κs : Lifetimes.Lfts 0) (a : World.ArgsD displaced.signature κs) (r r' : Bool) (s s' : _)
    → displaced_reads.Post κs a r s → displaced_reads.Post κs a r' s' → r ≡ r'
displaced_unique κs a r r' s s' p q = same p q

pub resident_unique : (κs : Lifetimes.Lfts 0) (a : World.ArgsD resident.signature κs) (r r' : ℕ) (s s' : _)
    → resident_reads.Post κs a r s → resident_reads.Post κs a r' s' → r ≡ r'
resident_unique κs a r r' s s' p q = same p q

pub taken_unique : (κs : Lifetimes.Lfts 0) (a : World.ArgsD taken.signature κs) (r r' : ℕ) (s s' : _)
    → taken_reads.Post κs a r s → taken_reads.Post κs a r' s' → r ≡ r'
taken_unique κs a r r' s s' p q = same p q

pub marked_unique : (κs : Lifetimes.Lfts 0) (a : World.ArgsD marked.signature κs) (r r' : ℕ) (s s' : _)
    → marked_reads.Post κs a r s → marked_reads.Post κs a r' s' → r ≡ r'
marked_unique κs a r r' s s' p q = same p q

pub invalid_unique : (κs : Lifetimes.Lfts 0) (a : World.ArgsD invalid.signature κs) (r r' : ℕ) (s s' : _)
    → invalid_reads.Post κs a r s → invalid_reads.Post κs a r' s' → r ≡ r'
invalid_unique κs a r r' s s' p q = same p q

pub flushed_unique : (κs : Lifetimes.Lfts 0) (a : World.ArgsD flushed.signature κs) (r r' : ℕ) (s s' : _)
    → flushed_reads.Post κs a r s → flushed_reads.Post κs a r' s' → r ≡ r'
flushed_unique κs a r r' s s' p q = same p q

pub tag_lo_unique : (κs : Lifetimes.Lfts 0) (a : World.ArgsD tag_lo.signature κs) (r r' : ℕ) (s s' : _)
    → tag_lo_reads.Post κs a r s → tag_lo_reads.Post κs a r' s' → r ≡ r'
tag_lo_unique κs a r r' s s' p q = same p q

pub stored_unique : (κs : Lifetimes.Lfts 0) (a : World.ArgsD stored.signature κs) (r r' : ℕ) (s s' : _)
    → stored_reads.Post κs a r s → stored_reads.Post κs a r' s' → r ≡ r'
stored_unique κs a r r' s s' p q = same p q

pub is_whole_unique : (κs : Lifetimes.Lfts 1) (a : World.ArgsD is_whole.signature κs) (r r' : Bool) (s s' : _)
    → is_whole_reads.Post κs a r s → is_whole_reads.Post κs a r' s' → r ≡ r'
is_whole_unique κs a r r' s s' p q = same p q

pub index_unique : (κs : Lifetimes.Lfts 0) (a : World.ArgsD index.signature κs) (r r' : ℕ) (s s' : _)
    → index_reads.Post κs a r s → index_reads.Post κs a r' s' → r ≡ r'
index_unique κs a r r' s s' p q = same p q

pub start_unique : (κs : Lifetimes.Lfts 0) (a : World.ArgsD start.signature κs) (r r' : ℕ) (s s' : _)
    → start_reads.Post κs a r s → start_reads.Post κs a r' s' → r ≡ r'
start_unique κs a r r' s s' p q = same p q

pub word_at_unique : (κs : Lifetimes.Lfts 1) (a : World.ArgsD word_at.signature κs) (r r' : ℕ) (s s' : _)
    → word_at_reads.Post κs a r s → word_at_reads.Post κs a r' s' → r ≡ r'
word_at_unique κs a r r' s s' p q = same p q

pub word_for_unique : (κs : Lifetimes.Lfts 1) (a : World.ArgsD word_for.signature κs) (r r' : ℕ) (s s' : _)
    → word_for_reads.Post κs a r s → word_for_reads.Post κs a r' s' → r ≡ r'
word_for_unique κs a r r' s s' p q = same p q

pub replace_unique : (κs : Lifetimes.Lfts 1) (a : World.ArgsD replace.signature κs) (r r' : _) (s s' : _)
    → replace_reads.Post κs a r s → replace_reads.Post κs a r' s' → s.0.now ≡ s'.0.now
replace_unique κs a r r' s s' p q = same p q

pub clear_unique : (κs : Lifetimes.Lfts 1) (a : World.ArgsD clear.signature κs) (r r' : _) (s s' : _)
    → clear_reads.Post κs a r s → clear_reads.Post κs a r' s' → s.0.now ≡ s'.0.now
clear_unique κs a r r' s s' p q = same p q
