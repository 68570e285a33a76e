-- No second outcome fits the contract of any public operation: shown on the contracts as the checker reads them. An outcome is the
-- answer and the final contents of each part that was lent to be changed.
use mathlib.Core.Path.{◌≡◌, ap₂}
use mathlib.Core.List.{List}
use Prim.Native.Nat.{ℕ}
use contract.Lifetimes as Lifetimes
use borrow.Fn.World as World
use Rattle.bits.proofs.Same.{same}
use Rattle.std.proofs.Common.{Bool, Option, Result}
use Rattle.cache.specs.declared.answers.Refusal.{Refusal}
use Rattle.cache.specs.declared.answers.Plan.{Plan}
use Rattle.cache.specs.declared.answers.MissPlan.{MissPlan}
use Rattle.cache.specs.declared.answers.Writeback.{Writeback}
use Rattle.cache.proofs.OneToOne.{done_one, asked_one, value_one, plan_one, writeback_one}
use Rattle.lines.specs.declared.access.Refusal as lines
use Rattle.cache.proofs.answers.Refusal.number.Reads as number
use Rattle.cache.proofs.answers.RefusalFromAccessRefusal.from.Reads as refusal_from
use Rattle.cache.specs.contracts.dcache.new as data_new
use Rattle.cache.proofs.dcache.new.Reads as data_new_reads
use Rattle.cache.specs.contracts.dcache.hits as data_hits
use Rattle.cache.proofs.dcache.hits.Reads as data_hits_reads
use Rattle.cache.specs.contracts.dcache.miss_plan as data_miss_plan
use Rattle.cache.proofs.dcache.miss_plan.Reads as data_miss_plan_reads
use Rattle.cache.specs.contracts.dcache.install as data_install
use Rattle.cache.proofs.dcache.install.Reads as data_install_reads
use Rattle.cache.specs.contracts.dcache.read as data_read
use Rattle.cache.proofs.dcache.read.Reads as data_read_reads
use Rattle.cache.specs.contracts.dcache.write as data_write
use Rattle.cache.proofs.dcache.write.Reads as data_write_reads
use Rattle.cache.specs.contracts.dcache.load_tag as data_load_tag
use Rattle.cache.proofs.dcache.load_tag.Reads as data_load_tag_reads
use Rattle.cache.specs.contracts.dcache.store_tag as data_store_tag
use Rattle.cache.proofs.dcache.store_tag.Reads as data_store_tag_reads
use Rattle.cache.specs.contracts.dcache.flush_index as data_flush_index
use Rattle.cache.proofs.dcache.flush_index.Reads as data_flush_index_reads
use Rattle.cache.specs.contracts.dcache.create_dirty_exclusive as data_create_dirty_exclusive
use Rattle.cache.proofs.dcache.create_dirty_exclusive.Reads as data_create_dirty_exclusive_reads
use Rattle.cache.specs.contracts.dcache.resident_addr as data_resident_addr
use Rattle.cache.proofs.dcache.resident_addr.Reads as data_resident_addr_reads
use Rattle.cache.specs.contracts.icache.new as instruction_new
use Rattle.cache.proofs.icache.new.Reads as instruction_new_reads
use Rattle.cache.specs.contracts.icache.hits as instruction_hits
use Rattle.cache.proofs.icache.hits.Reads as instruction_hits_reads
use Rattle.cache.specs.contracts.icache.read_word as instruction_read_word
use Rattle.cache.proofs.icache.read_word.Reads as instruction_read_word_reads
use Rattle.cache.specs.contracts.icache.install as instruction_install
use Rattle.cache.proofs.icache.install.Reads as instruction_install_reads
use Rattle.cache.specs.contracts.icache.load_tag as instruction_load_tag
use Rattle.cache.proofs.icache.load_tag.Reads as instruction_load_tag_reads
use Rattle.cache.specs.contracts.icache.store_tag as instruction_store_tag
use Rattle.cache.proofs.icache.store_tag.Reads as instruction_store_tag_reads
use Rattle.cache.specs.contracts.icache.invalidate_index as instruction_invalidate_index
use Rattle.cache.proofs.icache.invalidate_index.Reads as instruction_invalidate_index_reads
use Rattle.cache.specs.contracts.icache.hit_invalidate as instruction_hit_invalidate
use Rattle.cache.proofs.icache.hit_invalidate.Reads as instruction_hit_invalidate_reads
use Rattle.cache.specs.contracts.icache.flush_hit as instruction_flush_hit
use Rattle.cache.proofs.icache.flush_hit.Reads as instruction_flush_hit_reads
use Rattle.cache.specs.contracts.icache.resident_addr as instruction_resident_addr
use Rattle.cache.proofs.icache.resident_addr.Reads as instruction_resident_addr_reads

abbrev planned : Result Plan Refusal → List ℕ → MissPlan
planned a d = record { answer = a; «data» = d }

abbrev written : {n : ℕ} → Result (Option ℕ) Refusal → List ℕ → Writeback n
written a d = record { answer = a; «data» = d }

pub number_unique : (a : Refusal × Unit {0}) (r r' : ℕ) → number.Post tt a r a → number.Post tt a r' a → r ≡ r'
number_unique a r r' = same

pub refusal_from_unique : (a : lines.Refusal × Unit {0}) (r r' : Refusal) → refusal_from.Post tt a r a → refusal_from.Post tt a r' a → r ≡ r'
refusal_from_unique a r r' = same

pub data_new_unique : (κs : Lifetimes.Lfts 2) (a : World.ArgsD data_new.signature κs) (r r' : Result (Unit {0}) Refusal) (s s' : _)
    → data_new_reads.Post κs a r s → data_new_reads.Post κs a r' s' → (r ≡ r') × (s.0.now ≡ s'.0.now) × (s.1.0.now ≡ s'.1.0.now)
data_new_unique κs a r r' s s' p q = (done_one r r' (same p.0 q.0), same p.1 q.1, same p.2 q.2)

pub data_hits_unique : (κs : Lifetimes.Lfts 1) (a : World.ArgsD data_hits.signature κs) (r r' : Result Bool Refusal) (s s' : _)
    → data_hits_reads.Post κs a r s → data_hits_reads.Post κs a r' s' → r ≡ r'
data_hits_unique κs a r r' s s' p q = asked_one r r' (same p q)

pub data_miss_plan_unique : (κs : Lifetimes.Lfts 2) (a : World.ArgsD data_miss_plan.signature κs) (r r' : MissPlan) (s s' : _)
    → data_miss_plan_reads.Post κs a r s → data_miss_plan_reads.Post κs a r' s' → r ≡ r'
data_miss_plan_unique κs a r r' s s' p q =
    ap₂ planned (plan_one r.answer r'.answer (same p.0 q.0)) (same p.1 q.1)

pub data_install_unique : (κs : Lifetimes.Lfts 2) (a : World.ArgsD data_install.signature κs) (r r' : Result (Unit {0}) Refusal) (s s' : _)
    → data_install_reads.Post κs a r s → data_install_reads.Post κs a r' s' → (r ≡ r') × (s.0.now ≡ s'.0.now) × (s.1.0.now ≡ s'.1.0.now)
data_install_unique κs a r r' s s' p q = (done_one r r' (same p.0 q.0), same p.1 q.1, same p.2 q.2)

pub data_read_unique : (κs : Lifetimes.Lfts 1) (a : World.ArgsD data_read.signature κs) (r r' : Result ℕ Refusal) (s s' : _)
    → data_read_reads.Post κs a r s → data_read_reads.Post κs a r' s' → r ≡ r'
data_read_unique κs a r r' s s' p q = value_one r r' (same p q)

pub data_write_unique : (κs : Lifetimes.Lfts 2) (a : World.ArgsD data_write.signature κs) (r r' : Result (Unit {0}) Refusal) (s s' : _)
    → data_write_reads.Post κs a r s → data_write_reads.Post κs a r' s' → (r ≡ r') × (s.0.now ≡ s'.0.now) × (s.1.0.now ≡ s'.1.0.now)
data_write_unique κs a r r' s s' p q = (done_one r r' (same p.0 q.0), same p.1 q.1, same p.2 q.2)

pub data_load_tag_unique : (κs : Lifetimes.Lfts 1) (a : World.ArgsD data_load_tag.signature κs) (r r' : Result ℕ Refusal) (s s' : _)
    → data_load_tag_reads.Post κs a r s → data_load_tag_reads.Post κs a r' s' → r ≡ r'
data_load_tag_unique κs a r r' s s' p q = value_one r r' (same p q)

pub data_store_tag_unique : (κs : Lifetimes.Lfts 1) (a : World.ArgsD data_store_tag.signature κs) (r r' : Result (Unit {0}) Refusal) (s s' : _)
    → data_store_tag_reads.Post κs a r s → data_store_tag_reads.Post κs a r' s' → (r ≡ r') × (s.0.now ≡ s'.0.now)
data_store_tag_unique κs a r r' s s' p q = (done_one r r' (same p.0 q.0), same p.1 q.1)

pub data_flush_index_unique : (κs : Lifetimes.Lfts 2) (a : World.ArgsD data_flush_index.signature κs) (r r' : Writeback 16) (s s' : _)
    → data_flush_index_reads.Post κs a r s → data_flush_index_reads.Post κs a r' s' → (r ≡ r') × (s.1.0.now ≡ s'.1.0.now)
data_flush_index_unique κs a r r' s s' p q =
    (ap₂ written (writeback_one r.answer r'.answer (same p.0 q.0)) (same p.1 q.1), same p.2 q.2)

pub data_create_dirty_exclusive_unique : (κs : Lifetimes.Lfts 2) (a : World.ArgsD data_create_dirty_exclusive.signature κs) (r r' : Writeback 16) (s s' : _)
    → data_create_dirty_exclusive_reads.Post κs a r s → data_create_dirty_exclusive_reads.Post κs a r' s' → (r ≡ r') × (s.1.0.now ≡ s'.1.0.now)
data_create_dirty_exclusive_unique κs a r r' s s' p q =
    (ap₂ written (writeback_one r.answer r'.answer (same p.0 q.0)) (same p.1 q.1), same p.2 q.2)

pub data_resident_addr_unique : (κs : Lifetimes.Lfts 1) (a : World.ArgsD data_resident_addr.signature κs) (r r' : Result ℕ Refusal) (s s' : _)
    → data_resident_addr_reads.Post κs a r s → data_resident_addr_reads.Post κs a r' s' → r ≡ r'
data_resident_addr_unique κs a r r' s s' p q = value_one r r' (same p q)

pub instruction_new_unique : (κs : Lifetimes.Lfts 2) (a : World.ArgsD instruction_new.signature κs) (r r' : Result (Unit {0}) Refusal) (s s' : _)
    → instruction_new_reads.Post κs a r s → instruction_new_reads.Post κs a r' s' → (r ≡ r') × (s.0.now ≡ s'.0.now) × (s.1.0.now ≡ s'.1.0.now)
instruction_new_unique κs a r r' s s' p q = (done_one r r' (same p.0 q.0), same p.1 q.1, same p.2 q.2)

pub instruction_hits_unique : (κs : Lifetimes.Lfts 1) (a : World.ArgsD instruction_hits.signature κs) (r r' : Result Bool Refusal) (s s' : _)
    → instruction_hits_reads.Post κs a r s → instruction_hits_reads.Post κs a r' s' → r ≡ r'
instruction_hits_unique κs a r r' s s' p q = asked_one r r' (same p q)

pub instruction_read_word_unique : (κs : Lifetimes.Lfts 1) (a : World.ArgsD instruction_read_word.signature κs) (r r' : Result ℕ Refusal) (s s' : _)
    → instruction_read_word_reads.Post κs a r s → instruction_read_word_reads.Post κs a r' s' → r ≡ r'
instruction_read_word_unique κs a r r' s s' p q = value_one r r' (same p q)

pub instruction_install_unique : (κs : Lifetimes.Lfts 2) (a : World.ArgsD instruction_install.signature κs) (r r' : Result (Unit {0}) Refusal) (s s' : _)
    → instruction_install_reads.Post κs a r s → instruction_install_reads.Post κs a r' s' → (r ≡ r') × (s.0.now ≡ s'.0.now) × (s.1.0.now ≡ s'.1.0.now)
instruction_install_unique κs a r r' s s' p q = (done_one r r' (same p.0 q.0), same p.1 q.1, same p.2 q.2)

pub instruction_load_tag_unique : (κs : Lifetimes.Lfts 1) (a : World.ArgsD instruction_load_tag.signature κs) (r r' : Result ℕ Refusal) (s s' : _)
    → instruction_load_tag_reads.Post κs a r s → instruction_load_tag_reads.Post κs a r' s' → r ≡ r'
instruction_load_tag_unique κs a r r' s s' p q = value_one r r' (same p q)

pub instruction_store_tag_unique : (κs : Lifetimes.Lfts 1) (a : World.ArgsD instruction_store_tag.signature κs) (r r' : Result (Unit {0}) Refusal) (s s' : _)
    → instruction_store_tag_reads.Post κs a r s → instruction_store_tag_reads.Post κs a r' s' → (r ≡ r') × (s.0.now ≡ s'.0.now)
instruction_store_tag_unique κs a r r' s s' p q = (done_one r r' (same p.0 q.0), same p.1 q.1)

pub instruction_invalidate_index_unique : (κs : Lifetimes.Lfts 1) (a : World.ArgsD instruction_invalidate_index.signature κs) (r r' : Result (Unit {0}) Refusal) (s s' : _)
    → instruction_invalidate_index_reads.Post κs a r s → instruction_invalidate_index_reads.Post κs a r' s' → (r ≡ r') × (s.0.now ≡ s'.0.now)
instruction_invalidate_index_unique κs a r r' s s' p q = (done_one r r' (same p.0 q.0), same p.1 q.1)

pub instruction_hit_invalidate_unique : (κs : Lifetimes.Lfts 1) (a : World.ArgsD instruction_hit_invalidate.signature κs) (r r' : Result (Unit {0}) Refusal) (s s' : _)
    → instruction_hit_invalidate_reads.Post κs a r s → instruction_hit_invalidate_reads.Post κs a r' s' → (r ≡ r') × (s.0.now ≡ s'.0.now)
instruction_hit_invalidate_unique κs a r r' s s' p q = (done_one r r' (same p.0 q.0), same p.1 q.1)

pub instruction_flush_hit_unique : (κs : Lifetimes.Lfts 2) (a : World.ArgsD instruction_flush_hit.signature κs) (r r' : Writeback 32) (s s' : _)
    → instruction_flush_hit_reads.Post κs a r s → instruction_flush_hit_reads.Post κs a r' s' → r ≡ r'
instruction_flush_hit_unique κs a r r' s s' p q =
    ap₂ written (writeback_one r.answer r'.answer (same p.0 q.0)) (same p.1 q.1)

pub instruction_resident_addr_unique : (κs : Lifetimes.Lfts 1) (a : World.ArgsD instruction_resident_addr.signature κs) (r r' : Result ℕ Refusal) (s s' : _)
    → instruction_resident_addr_reads.Post κs a r s → instruction_resident_addr_reads.Post κs a r' s' → r ≡ r'
instruction_resident_addr_unique κs a r r' s s' p q = value_one r r' (same p q)
