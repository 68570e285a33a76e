-- The exports make a cache: from the contract of a cache's export, as the checker reads it, follows that what it answers and the parts
-- that it leaves are the step of the crate `cache`. So what is proved of a cache's runs holds of a caller of the exports.
use Rattle.std.proofs.Common.{◌≡◌, ℕ, ◌%◌, Bool, cond, eqb, leb, List, [], ◌∷◌, length, refl, ap, ◌∙◌, eq-eqb}
use contract.Lifetimes as Lifetimes
use borrow.Fn.World as World
use Rattle.bits.proofs.Choices.{either}
use Rattle.bits.specs.Field.{bit}
use Rattle.bits.specs.Told.{Told, answered, refused}
use Rattle.bits.proofs.FieldLaws.{bit_undone}
use Rattle.tags.specs.Words.{hit_of, leaves_of}
use Rattle.tags.specs.Places.{tagged, start_of, word_for}
use Rattle.cache.specs.Both.{sized, hits_told, load_told, resident_told, tags_told, both_told, evicted_if}
use Rattle.cache.specs.Data.{planned_of, plan_told, read_told, write_told, flush_told, create_told, displaced, leaves}
use Rattle.cache.specs.Instruction as instruction
use Rattle.cache.specs.Step.{Cache, dcache, icache, Op, new, hits, install, load_tag, store_tag, resident_addr, miss_plan, read, write, flush_index, create_dirty_exclusive, read_word, invalidate_index, hit_invalidate, flush_hit, Parts, lent, Outcome, outcome, step_of}
use Rattle.cache.proofs.Telling.{read_told_lem, write_told_lem}
use Rattle.rimjhodek.specs.declared.answers.Flag.{Flag}
use Rattle.rimjhodek.specs.declared.answers.Number.{Number}
use Rattle.rimjhodek.specs.declared.answers.Plan.{Plan}
use Rattle.rimjhodek.specs.declared.answers.Eviction.{Eviction}
use Rattle.rimjhodek.specs.declared.dcache.DataPlan.{DataPlan}
use Rattle.rimjhodek.specs.declared.dcache.DataLine.{DataLine}
use Rattle.rimjhodek.specs.declared.icache.InstructionLine.{InstructionLine}
use Rattle.rimjhodek.specs.Answers.{flag_of, number_of, plan_of, eviction_of}
use Rattle.rimjhodek.proofs.Steps.{told_flag}
use Rattle.rimjhodek.specs.contracts.dcache.rimjhodek_dcache_new as data_new
use Rattle.rimjhodek.proofs.dcache.rimjhodek_dcache_new.Reads as data_new_reads
use Rattle.rimjhodek.specs.contracts.dcache.rimjhodek_dcache_hits as data_hits
use Rattle.rimjhodek.proofs.dcache.rimjhodek_dcache_hits.Reads as data_hits_reads
use Rattle.rimjhodek.specs.contracts.dcache.rimjhodek_dcache_hit as data_hit
use Rattle.rimjhodek.proofs.dcache.rimjhodek_dcache_hit.Reads as data_hit_reads
use Rattle.rimjhodek.specs.contracts.dcache.rimjhodek_dcache_miss_plan as data_miss_plan
use Rattle.rimjhodek.proofs.dcache.rimjhodek_dcache_miss_plan.Reads as data_miss_plan_reads
use Rattle.rimjhodek.specs.contracts.dcache.rimjhodek_dcache_install as data_install
use Rattle.rimjhodek.proofs.dcache.rimjhodek_dcache_install.Reads as data_install_reads
use Rattle.rimjhodek.specs.contracts.dcache.rimjhodek_dcache_read as data_read
use Rattle.rimjhodek.proofs.dcache.rimjhodek_dcache_read.Reads as data_read_reads
use Rattle.rimjhodek.specs.contracts.dcache.rimjhodek_dcache_write as data_write
use Rattle.rimjhodek.proofs.dcache.rimjhodek_dcache_write.Reads as data_write_reads
use Rattle.rimjhodek.specs.contracts.dcache.rimjhodek_dcache_load_tag as data_load_tag
use Rattle.rimjhodek.proofs.dcache.rimjhodek_dcache_load_tag.Reads as data_load_tag_reads
use Rattle.rimjhodek.specs.contracts.dcache.rimjhodek_dcache_store_tag as data_store_tag
use Rattle.rimjhodek.proofs.dcache.rimjhodek_dcache_store_tag.Reads as data_store_tag_reads
use Rattle.rimjhodek.specs.contracts.dcache.rimjhodek_dcache_flush_index as data_flush_index
use Rattle.rimjhodek.proofs.dcache.rimjhodek_dcache_flush_index.Reads as data_flush_index_reads
use Rattle.rimjhodek.specs.contracts.dcache.rimjhodek_dcache_create_dirty_exclusive as data_create_dirty_exclusive
use Rattle.rimjhodek.proofs.dcache.rimjhodek_dcache_create_dirty_exclusive.Reads as data_create_dirty_exclusive_reads
use Rattle.rimjhodek.specs.contracts.dcache.rimjhodek_dcache_resident_addr as data_resident_addr
use Rattle.rimjhodek.proofs.dcache.rimjhodek_dcache_resident_addr.Reads as data_resident_addr_reads
use Rattle.rimjhodek.specs.contracts.icache.rimjhodek_icache_new as instruction_new
use Rattle.rimjhodek.proofs.icache.rimjhodek_icache_new.Reads as instruction_new_reads
use Rattle.rimjhodek.specs.contracts.icache.rimjhodek_icache_hits as instruction_hits
use Rattle.rimjhodek.proofs.icache.rimjhodek_icache_hits.Reads as instruction_hits_reads
use Rattle.rimjhodek.specs.contracts.icache.rimjhodek_icache_hit as instruction_hit
use Rattle.rimjhodek.proofs.icache.rimjhodek_icache_hit.Reads as instruction_hit_reads
use Rattle.rimjhodek.specs.contracts.icache.rimjhodek_icache_read_word as instruction_read_word
use Rattle.rimjhodek.proofs.icache.rimjhodek_icache_read_word.Reads as instruction_read_word_reads
use Rattle.rimjhodek.specs.contracts.icache.rimjhodek_icache_install as instruction_install
use Rattle.rimjhodek.proofs.icache.rimjhodek_icache_install.Reads as instruction_install_reads
use Rattle.rimjhodek.specs.contracts.icache.rimjhodek_icache_load_tag as instruction_load_tag
use Rattle.rimjhodek.proofs.icache.rimjhodek_icache_load_tag.Reads as instruction_load_tag_reads
use Rattle.rimjhodek.specs.contracts.icache.rimjhodek_icache_store_tag as instruction_store_tag
use Rattle.rimjhodek.proofs.icache.rimjhodek_icache_store_tag.Reads as instruction_store_tag_reads
use Rattle.rimjhodek.specs.contracts.icache.rimjhodek_icache_invalidate_index as instruction_invalidate_index
use Rattle.rimjhodek.proofs.icache.rimjhodek_icache_invalidate_index.Reads as instruction_invalidate_index_reads
use Rattle.rimjhodek.specs.contracts.icache.rimjhodek_icache_hit_invalidate as instruction_hit_invalidate
use Rattle.rimjhodek.proofs.icache.rimjhodek_icache_hit_invalidate.Reads as instruction_hit_invalidate_reads
use Rattle.rimjhodek.specs.contracts.icache.rimjhodek_icache_flush_hit as instruction_flush_hit
use Rattle.rimjhodek.proofs.icache.rimjhodek_icache_flush_hit.Reads as instruction_flush_hit_reads
use Rattle.rimjhodek.specs.contracts.icache.rimjhodek_icache_resident_addr as instruction_resident_addr
use Rattle.rimjhodek.proofs.icache.rimjhodek_icache_resident_addr.Reads as instruction_resident_addr_reads

-- what crosses, as the cache tells it: a refusal's number alone, or the values
abbrev told_by : ℕ → List ℕ → Told
told_by n vs = cond (eqb n 0) (answered vs) (refused n)

abbrev pub told_done : ℕ → Told
told_done n = told_by n (0 ∷ [])

abbrev pub told_number : Number → Told
told_number r = told_by r.refused (r.value ∷ [])

abbrev pub told_plan : Plan → Told
told_plan r = told_by r.refused (cond (eqb r.plan 2) (2 ∷ r.addr ∷ []) (r.plan ∷ []))

abbrev pub told_eviction : Eviction → Told
told_eviction r = told_by r.refused (cond r.evict (1 ∷ r.addr ∷ []) (0 ∷ []))

-- nothing of an answer is lost
abbrev Done : Told → Type 0
Done t = told_done t.number ≡ t

abbrev Flags : Told → Type 0
Flags t = told_flag (flag_of t) ≡ t

abbrev Numbers : Told → Type 0
Numbers t = told_number (number_of t) ≡ t

abbrev Plans : Told → Type 0
Plans t = told_plan (plan_of t) ≡ t

abbrev Evictions : Told → Type 0
Evictions t = told_eviction (eviction_of t) ≡ t

both_back : (bytes : ℕ) (ls ws : List ℕ) → Done (both_told bytes ls ws)
unfolding both_told
both_back bytes ls ws = either Done (sized bytes ls ws) refl refl

tags_back : (ws : List ℕ) → Done (tags_told ws)
unfolding tags_told
tags_back ws = either Done (tagged ws) refl refl

write_back : (ls ws : List ℕ) (a len : ℕ) → Done (write_told ls ws a len)
write_back = write_told_lem Done refl refl refl refl

hits_back : (size : ℕ) (ws : List ℕ) (a : ℕ) → Flags (hits_told size ws a)
unfolding hits_told
hits_back size ws a =
    either Flags (tagged ws) (ap (λ (b : Bool). answered (bit b ∷ [])) (bit_undone (hit_of (word_for size ws a) a))) refl

load_back : (size state : ℕ) (ws : List ℕ) (a : ℕ) → Numbers (load_told size state ws a)
unfolding load_told
load_back size state ws a = either Numbers (tagged ws) refl refl

resident_back : (ws : List ℕ) (i start : ℕ) → Numbers (resident_told ws i start)
unfolding resident_told
resident_back ws i start = either Numbers (tagged ws) refl refl

read_back : (ls : List ℕ) (a len : ℕ) → Numbers (read_told ls a len)
read_back = read_told_lem Numbers refl refl refl (λ v. refl)

word_back : (ls : List ℕ) (a : ℕ) → Numbers (instruction.word_told ls a)
unfolding instruction.word_told
word_back ls a = either Numbers (eqb (length ls) 16384) (either Numbers (leb (a % 32) 28) refl refl) refl

plan_back : (ls ws : List ℕ) (a : ℕ) → Plans (plan_told ls ws a)
unfolding plan_told planned_of
plan_back ls ws a =
    let w : ℕ = word_for 16 ws a in
    either Plans (sized 8192 ls ws) (either Plans (hit_of w a) refl (either Plans (leaves_of w) refl refl)) refl

evicted_back : (fit b : Bool) (w start : ℕ) → Evictions (cond fit (evicted_if b w start) (refused 1))
evicted_back fit b w start = either Evictions fit (either Evictions b refl refl) refl

flush_back : (ls ws : List ℕ) (a : ℕ) → Evictions (flush_told ls ws a)
unfolding flush_told
flush_back ls ws a = evicted_back (sized 8192 ls ws) (leaves ws a) (word_for 16 ws a) (start_of 16 a)

create_back : (ls ws : List ℕ) (a : ℕ) → Evictions (create_told ls ws a)
unfolding create_told
create_back ls ws a = evicted_back (sized 8192 ls ws) (displaced ws a) (word_for 16 ws a) (start_of 16 a)

flush_hit_back : (ls ws : List ℕ) (a : ℕ) → Evictions (instruction.flush_told ls ws a)
unfolding instruction.flush_told
flush_hit_back ls ws a = evicted_back (sized 16384 ls ws) (hit_of (word_for 32 ws a) a) (word_for 32 ws a) (start_of 32 a)

-- of 512 words `hits` is not refused
hit_told : (size : ℕ) (ws : List ℕ) (a : ℕ) → length ws ≡ 512 → answered (bit (hit_of (word_for size ws a) a) ∷ []) ≡ hits_told size ws a
unfolding hits_told
hit_told size ws a l = rw (eq-eqb (length ws) 512 l)

-- outcomes are the same by their parts
same_outcome : {t t' : Told} {l l' ls ls' ws ws' : List ℕ} → t ≡ t' → l ≡ l' → ls ≡ ls' → ws ≡ ws'
    → outcome t l ls ws ≡ outcome t' l' ls' ws'
same_outcome p q r s = rw (p, q, r, s)

-- a call of an export, its operation, the parts before it and its outcome: the export's contract, as the checker reads it, holds of them.
-- A part that is not lent is any, and stays; `hit` is lent 512 words by its type
pub data Call : (c : Cache) → Op c → Parts → Outcome → Type 0 where
  dcache_new : (κs : Lifetimes.Lfts 2) (a : World.ArgsD data_new.signature κs) (r : ℕ) (s : _)
      → data_new_reads.Post κs a r s
      → Call dcache new (lent a.0.now a.1.0.now) (outcome (told_done r) [] s.0.now s.1.0.now)
  dcache_hits : (κs : Lifetimes.Lfts 1) (a : World.ArgsD data_hits.signature κs) (r : Flag) (s : _) (ls : List ℕ)
      → data_hits_reads.Post κs a r s
      → Call dcache (hits a.1.0) (lent ls a.0.now) (outcome (told_flag r) [] ls a.0.now)
  dcache_hit : (κs : Lifetimes.Lfts 1) (a : World.ArgsD data_hit.signature κs) (r : Bool) (s : _) (ls : List ℕ)
      → length a.0.now ≡ 512 → data_hit_reads.Post κs a r s
      → Call dcache (hits a.1.0) (lent ls a.0.now) (outcome (answered (bit r ∷ [])) [] ls a.0.now)
  dcache_miss_plan : (κs : Lifetimes.Lfts 2) (a : World.ArgsD data_miss_plan.signature κs) (r : DataPlan) (s : _)
      → data_miss_plan_reads.Post κs a r s
      → Call dcache (miss_plan a.1.1.0) (lent a.0.now a.1.0.now)
      (outcome (told_plan r.plan) r.«data» a.0.now a.1.0.now)
  dcache_install : (κs : Lifetimes.Lfts 3) (a : World.ArgsD data_install.signature κs) (r : ℕ) (s : _)
      → data_install_reads.Post κs a r s
      → Call dcache (install a.1.1.0 a.1.1.1.0.now) (lent a.0.now a.1.0.now)
      (outcome (told_done r) [] s.0.now s.1.0.now)
  dcache_read : (κs : Lifetimes.Lfts 1) (a : World.ArgsD data_read.signature κs) (r : Number) (s : _) (ws : List ℕ)
      → data_read_reads.Post κs a r s
      → Call dcache (read a.1.0 a.1.1.0) (lent a.0.now ws) (outcome (told_number r) [] a.0.now ws)
  dcache_write : (κs : Lifetimes.Lfts 2) (a : World.ArgsD data_write.signature κs) (r : ℕ) (s : _)
      → data_write_reads.Post κs a r s
      → Call dcache (write a.1.1.0 a.1.1.1.0 a.1.1.1.1.0) (lent a.0.now a.1.0.now)
      (outcome (told_done r) [] s.0.now s.1.0.now)
  dcache_load_tag : (κs : Lifetimes.Lfts 1) (a : World.ArgsD data_load_tag.signature κs) (r : Number) (s : _) (ls : List ℕ)
      → data_load_tag_reads.Post κs a r s
      → Call dcache (load_tag a.1.0) (lent ls a.0.now) (outcome (told_number r) [] ls a.0.now)
  dcache_store_tag : (κs : Lifetimes.Lfts 1) (a : World.ArgsD data_store_tag.signature κs) (r : ℕ) (s : _) (ls : List ℕ)
      → data_store_tag_reads.Post κs a r s
      → Call dcache (store_tag a.1.0 a.1.1.0) (lent ls a.0.now) (outcome (told_done r) [] ls s.0.now)
  dcache_flush_index : (κs : Lifetimes.Lfts 2) (a : World.ArgsD data_flush_index.signature κs) (r : DataLine) (s : _)
      → data_flush_index_reads.Post κs a r s
      → Call dcache (flush_index a.1.1.0 a.1.1.1.0 a.1.1.1.1.0) (lent a.0.now a.1.0.now)
      (outcome (told_eviction r.eviction) r.«data» a.0.now s.1.0.now)
  dcache_create_dirty_exclusive : (κs : Lifetimes.Lfts 2) (a : World.ArgsD data_create_dirty_exclusive.signature κs) (r : DataLine) (s : _)
      → data_create_dirty_exclusive_reads.Post κs a r s
      → Call dcache (create_dirty_exclusive a.1.1.0) (lent a.0.now a.1.0.now)
      (outcome (told_eviction r.eviction) r.«data» a.0.now s.1.0.now)
  dcache_resident_addr : (κs : Lifetimes.Lfts 1) (a : World.ArgsD data_resident_addr.signature κs) (r : Number) (s : _) (ls : List ℕ)
      → data_resident_addr_reads.Post κs a r s
      → Call dcache (resident_addr a.1.0) (lent ls a.0.now) (outcome (told_number r) [] ls a.0.now)
  icache_new : (κs : Lifetimes.Lfts 2) (a : World.ArgsD instruction_new.signature κs) (r : ℕ) (s : _)
      → instruction_new_reads.Post κs a r s
      → Call icache new (lent a.0.now a.1.0.now) (outcome (told_done r) [] s.0.now s.1.0.now)
  icache_hits : (κs : Lifetimes.Lfts 1) (a : World.ArgsD instruction_hits.signature κs) (r : Flag) (s : _) (ls : List ℕ)
      → instruction_hits_reads.Post κs a r s
      → Call icache (hits a.1.0) (lent ls a.0.now) (outcome (told_flag r) [] ls a.0.now)
  icache_hit : (κs : Lifetimes.Lfts 1) (a : World.ArgsD instruction_hit.signature κs) (r : Bool) (s : _) (ls : List ℕ)
      → length a.0.now ≡ 512 → instruction_hit_reads.Post κs a r s
      → Call icache (hits a.1.0) (lent ls a.0.now) (outcome (answered (bit r ∷ [])) [] ls a.0.now)
  icache_read_word : (κs : Lifetimes.Lfts 1) (a : World.ArgsD instruction_read_word.signature κs) (r : Number) (s : _) (ws : List ℕ)
      → instruction_read_word_reads.Post κs a r s
      → Call icache (read_word a.1.0) (lent a.0.now ws) (outcome (told_number r) [] a.0.now ws)
  icache_install : (κs : Lifetimes.Lfts 3) (a : World.ArgsD instruction_install.signature κs) (r : ℕ) (s : _)
      → instruction_install_reads.Post κs a r s
      → Call icache (install a.1.1.0 a.1.1.1.0.now) (lent a.0.now a.1.0.now)
      (outcome (told_done r) [] s.0.now s.1.0.now)
  icache_load_tag : (κs : Lifetimes.Lfts 1) (a : World.ArgsD instruction_load_tag.signature κs) (r : Number) (s : _) (ls : List ℕ)
      → instruction_load_tag_reads.Post κs a r s
      → Call icache (load_tag a.1.0) (lent ls a.0.now) (outcome (told_number r) [] ls a.0.now)
  icache_store_tag : (κs : Lifetimes.Lfts 1) (a : World.ArgsD instruction_store_tag.signature κs) (r : ℕ) (s : _) (ls : List ℕ)
      → instruction_store_tag_reads.Post κs a r s
      → Call icache (store_tag a.1.0 a.1.1.0) (lent ls a.0.now) (outcome (told_done r) [] ls s.0.now)
  icache_invalidate_index : (κs : Lifetimes.Lfts 1) (a : World.ArgsD instruction_invalidate_index.signature κs) (r : ℕ) (s : _) (ls : List ℕ)
      → instruction_invalidate_index_reads.Post κs a r s
      → Call icache (invalidate_index a.1.0) (lent ls a.0.now) (outcome (told_done r) [] ls s.0.now)
  icache_hit_invalidate : (κs : Lifetimes.Lfts 1) (a : World.ArgsD instruction_hit_invalidate.signature κs) (r : ℕ) (s : _) (ls : List ℕ)
      → instruction_hit_invalidate_reads.Post κs a r s
      → Call icache (hit_invalidate a.1.0) (lent ls a.0.now) (outcome (told_done r) [] ls s.0.now)
  icache_flush_hit : (κs : Lifetimes.Lfts 2) (a : World.ArgsD instruction_flush_hit.signature κs) (r : InstructionLine) (s : _)
      → instruction_flush_hit_reads.Post κs a r s
      → Call icache (flush_hit a.1.1.0) (lent a.0.now a.1.0.now)
      (outcome (told_eviction r.eviction) r.«data» a.0.now a.1.0.now)
  icache_resident_addr : (κs : Lifetimes.Lfts 1) (a : World.ArgsD instruction_resident_addr.signature κs) (r : Number) (s : _) (ls : List ℕ)
      → instruction_resident_addr_reads.Post κs a r s
      → Call icache (resident_addr a.1.0) (lent ls a.0.now) (outcome (told_number r) [] ls a.0.now)

pub call_steps : {c : Cache} {o : Op c} {p : Parts} {r : Outcome} → Call c o p r → r ≡ step_of o p
call_steps (dcache_new κs a r s q) = same_outcome (ap told_done q.0 ∙ both_back _ _ _) refl q.1 q.2
call_steps (dcache_hits κs a r s ls q) = same_outcome (ap told_flag q ∙ hits_back _ _ _) refl refl refl
call_steps (dcache_hit κs a r s ls l q) = same_outcome (ap (λ (b : Bool). answered (bit b ∷ [])) q ∙ hit_told _ _ _ l) refl refl refl
call_steps (dcache_miss_plan κs a r s q) = same_outcome (ap told_plan q.0 ∙ plan_back _ _ _) q.1 refl refl
call_steps (dcache_install κs a r s q) = same_outcome (ap told_done q.0 ∙ both_back _ _ _) refl q.1 q.2
call_steps (dcache_read κs a r s ls q) = same_outcome (ap told_number q ∙ read_back _ _ _) refl refl refl
call_steps (dcache_write κs a r s q) = same_outcome (ap told_done q.0 ∙ write_back _ _ _ _) refl q.1 q.2
call_steps (dcache_load_tag κs a r s ls q) = same_outcome (ap told_number q ∙ load_back _ _ _ _) refl refl refl
call_steps (dcache_store_tag κs a r s ls q) = same_outcome (ap told_done q.0 ∙ tags_back _) refl refl q.1
call_steps (dcache_flush_index κs a r s q) = same_outcome (ap told_eviction q.0 ∙ flush_back _ _ _) q.1 refl q.2
call_steps (dcache_create_dirty_exclusive κs a r s q) = same_outcome (ap told_eviction q.0 ∙ create_back _ _ _) q.1 refl q.2
call_steps (dcache_resident_addr κs a r s ls q) = same_outcome (ap told_number q ∙ resident_back _ _ _) refl refl refl
call_steps (icache_new κs a r s q) = same_outcome (ap told_done q.0 ∙ both_back _ _ _) refl q.1 q.2
call_steps (icache_hits κs a r s ls q) = same_outcome (ap told_flag q ∙ hits_back _ _ _) refl refl refl
call_steps (icache_hit κs a r s ls l q) = same_outcome (ap (λ (b : Bool). answered (bit b ∷ [])) q ∙ hit_told _ _ _ l) refl refl refl
call_steps (icache_read_word κs a r s ls q) = same_outcome (ap told_number q ∙ word_back _ _) refl refl refl
call_steps (icache_install κs a r s q) = same_outcome (ap told_done q.0 ∙ both_back _ _ _) refl q.1 q.2
call_steps (icache_load_tag κs a r s ls q) = same_outcome (ap told_number q ∙ load_back _ _ _ _) refl refl refl
call_steps (icache_store_tag κs a r s ls q) = same_outcome (ap told_done q.0 ∙ tags_back _) refl refl q.1
call_steps (icache_invalidate_index κs a r s ls q) = same_outcome (ap told_done q.0 ∙ tags_back _) refl refl q.1
call_steps (icache_hit_invalidate κs a r s ls q) = same_outcome (ap told_done q.0 ∙ tags_back _) refl refl q.1
call_steps (icache_flush_hit κs a r s q) = same_outcome (ap told_eviction q.0 ∙ flush_hit_back _ _ _) q.1 refl refl
call_steps (icache_resident_addr κs a r s ls q) = same_outcome (ap told_number q ∙ resident_back _ _ _) refl refl refl
