-- No second outcome fits the contract of any export: shown on the contracts as the checker reads them. An outcome is the answer and
-- the final contents of each part that was lent to be changed.
use Rattle.std.proofs.Common.{◌≡◌, ℕ, Bool, List, ap₂}
use contract.Lifetimes as Lifetimes
use borrow.Fn.World as World
use Rattle.bits.proofs.Same.{same}
use Rattle.rimjhodek.specs.declared.answers.Flag.{Flag}
use Rattle.rimjhodek.specs.declared.answers.Number.{Number}
use Rattle.rimjhodek.specs.declared.answers.Plan.{Plan}
use Rattle.rimjhodek.specs.declared.answers.Eviction.{Eviction}
use Rattle.rimjhodek.specs.declared.dcache.DataPlan.{DataPlan}
use Rattle.rimjhodek.specs.declared.dcache.DataLine.{DataLine}
use Rattle.rimjhodek.specs.declared.icache.InstructionLine.{InstructionLine}
use Rattle.rimjhodek.specs.declared.modes.By.{By}
use Rattle.rimjhodek.specs.declared.modes.Granted.{Granted}
use Rattle.rimjhodek.specs.declared.modes.Reached.{Reached}
use Rattle.rimjhodek.specs.declared.exceptions.Exc.{Exc}
use Rattle.rimjhodek.specs.declared.exceptions.Taken.{Taken}
use Rattle.rimjhodek.specs.declared.table.Looked.{Looked}
use Rattle.rimjhodek.specs.contracts.dcache.rimjhodek_dcache_new as data_new
use Rattle.rimjhodek.proofs.dcache.rimjhodek_dcache_new.Reads as data_new_reads
use Rattle.rimjhodek.specs.contracts.dcache.rimjhodek_dcache_hit as data_hit
use Rattle.rimjhodek.proofs.dcache.rimjhodek_dcache_hit.Reads as data_hit_reads
use Rattle.rimjhodek.specs.contracts.dcache.rimjhodek_dcache_hits as data_hits
use Rattle.rimjhodek.proofs.dcache.rimjhodek_dcache_hits.Reads as data_hits_reads
use Rattle.rimjhodek.specs.contracts.dcache.rimjhodek_dcache_miss_plan as data_miss_plan
use Rattle.rimjhodek.proofs.dcache.rimjhodek_dcache_miss_plan.Reads as data_miss_plan_reads
use Rattle.rimjhodek.specs.contracts.dcache.rimjhodek_dcache_install as data_install
use Rattle.rimjhodek.proofs.dcache.rimjhodek_dcache_install.Reads as data_install_reads
use Rattle.rimjhodek.specs.contracts.dcache.rimjhodek_dcache_read as data_read
use Rattle.rimjhodek.proofs.dcache.rimjhodek_dcache_read.Reads as data_read_reads
use Rattle.rimjhodek.specs.contracts.dcache.rimjhodek_dcache_write as data_write
use Rattle.rimjhodek.proofs.dcache.rimjhodek_dcache_write.Reads as data_write_reads
use Rattle.rimjhodek.specs.contracts.dcache.rimjhodek_dcache_load_tag as data_load_tag
use Rattle.rimjhodek.proofs.dcache.rimjhodek_dcache_load_tag.Reads as data_load_tag_reads
use Rattle.rimjhodek.specs.contracts.dcache.rimjhodek_dcache_store_tag as data_store_tag
use Rattle.rimjhodek.proofs.dcache.rimjhodek_dcache_store_tag.Reads as data_store_tag_reads
use Rattle.rimjhodek.specs.contracts.dcache.rimjhodek_dcache_flush_index as data_flush_index
use Rattle.rimjhodek.proofs.dcache.rimjhodek_dcache_flush_index.Reads as data_flush_index_reads
use Rattle.rimjhodek.specs.contracts.dcache.rimjhodek_dcache_create_dirty_exclusive as data_create_dirty_exclusive
use Rattle.rimjhodek.proofs.dcache.rimjhodek_dcache_create_dirty_exclusive.Reads as data_create_dirty_exclusive_reads
use Rattle.rimjhodek.specs.contracts.dcache.rimjhodek_dcache_resident_addr as data_resident_addr
use Rattle.rimjhodek.proofs.dcache.rimjhodek_dcache_resident_addr.Reads as data_resident_addr_reads
use Rattle.rimjhodek.specs.contracts.icache.rimjhodek_icache_new as instruction_new
use Rattle.rimjhodek.proofs.icache.rimjhodek_icache_new.Reads as instruction_new_reads
use Rattle.rimjhodek.specs.contracts.icache.rimjhodek_icache_hit as instruction_hit
use Rattle.rimjhodek.proofs.icache.rimjhodek_icache_hit.Reads as instruction_hit_reads
use Rattle.rimjhodek.specs.contracts.icache.rimjhodek_icache_hits as instruction_hits
use Rattle.rimjhodek.proofs.icache.rimjhodek_icache_hits.Reads as instruction_hits_reads
use Rattle.rimjhodek.specs.contracts.icache.rimjhodek_icache_read_word as instruction_read_word
use Rattle.rimjhodek.proofs.icache.rimjhodek_icache_read_word.Reads as instruction_read_word_reads
use Rattle.rimjhodek.specs.contracts.icache.rimjhodek_icache_install as instruction_install
use Rattle.rimjhodek.proofs.icache.rimjhodek_icache_install.Reads as instruction_install_reads
use Rattle.rimjhodek.specs.contracts.icache.rimjhodek_icache_load_tag as instruction_load_tag
use Rattle.rimjhodek.proofs.icache.rimjhodek_icache_load_tag.Reads as instruction_load_tag_reads
use Rattle.rimjhodek.specs.contracts.icache.rimjhodek_icache_store_tag as instruction_store_tag
use Rattle.rimjhodek.proofs.icache.rimjhodek_icache_store_tag.Reads as instruction_store_tag_reads
use Rattle.rimjhodek.specs.contracts.icache.rimjhodek_icache_invalidate_index as instruction_invalidate_index
use Rattle.rimjhodek.proofs.icache.rimjhodek_icache_invalidate_index.Reads as instruction_invalidate_index_reads
use Rattle.rimjhodek.specs.contracts.icache.rimjhodek_icache_hit_invalidate as instruction_hit_invalidate
use Rattle.rimjhodek.proofs.icache.rimjhodek_icache_hit_invalidate.Reads as instruction_hit_invalidate_reads
use Rattle.rimjhodek.specs.contracts.icache.rimjhodek_icache_flush_hit as instruction_flush_hit
use Rattle.rimjhodek.proofs.icache.rimjhodek_icache_flush_hit.Reads as instruction_flush_hit_reads
use Rattle.rimjhodek.specs.contracts.icache.rimjhodek_icache_resident_addr as instruction_resident_addr
use Rattle.rimjhodek.proofs.icache.rimjhodek_icache_resident_addr.Reads as instruction_resident_addr_reads
use Rattle.rimjhodek.specs.contracts.exceptions.rimjhodek_dispatch as dispatch
use Rattle.rimjhodek.proofs.exceptions.rimjhodek_dispatch.Reads as dispatch_reads
use Rattle.rimjhodek.specs.contracts.exceptions.rimjhodek_nmi as nmi
use Rattle.rimjhodek.proofs.exceptions.rimjhodek_nmi.Reads as nmi_reads
use Rattle.rimjhodek.specs.contracts.exceptions.rimjhodek_eret as eret
use Rattle.rimjhodek.proofs.exceptions.rimjhodek_eret.Reads as eret_reads
use Rattle.rimjhodek.proofs.exceptions.rimjhodek_vector.Reads as vector_reads
use Rattle.rimjhodek.proofs.exceptions.rimjhodek_exc_code_of.Reads as exc_code_of_reads
use Rattle.rimjhodek.proofs.exceptions.rimjhodek_vector_kind_of.Reads as vector_kind_of_reads
use Rattle.rimjhodek.proofs.exceptions.rimjhodek_writes_bad_vaddr.Reads as writes_bad_vaddr_reads
use Rattle.rimjhodek.proofs.modes.rimjhodek_from_status.Reads as from_status_reads
use Rattle.rimjhodek.proofs.modes.rimjhodek_segment.Reads as segment_reads
use Rattle.rimjhodek.specs.contracts.registers.rimjhodek_cop0_new as cop0_new
use Rattle.rimjhodek.proofs.registers.rimjhodek_cop0_new.Reads as cop0_new_reads
use Rattle.rimjhodek.specs.contracts.registers.rimjhodek_mfc0 as mfc0
use Rattle.rimjhodek.proofs.registers.rimjhodek_mfc0.Reads as mfc0_reads
use Rattle.rimjhodek.specs.contracts.registers.rimjhodek_dmfc0 as dmfc0
use Rattle.rimjhodek.proofs.registers.rimjhodek_dmfc0.Reads as dmfc0_reads
use Rattle.rimjhodek.specs.contracts.registers.rimjhodek_mtc0 as mtc0
use Rattle.rimjhodek.proofs.registers.rimjhodek_mtc0.Reads as mtc0_reads
use Rattle.rimjhodek.specs.contracts.registers.rimjhodek_dmtc0 as dmtc0
use Rattle.rimjhodek.proofs.registers.rimjhodek_dmtc0.Reads as dmtc0_reads
use Rattle.rimjhodek.specs.contracts.registers.rimjhodek_write as write
use Rattle.rimjhodek.proofs.registers.rimjhodek_write.Reads as write_reads
use Rattle.rimjhodek.specs.contracts.registers.rimjhodek_set_hardware as set_hardware
use Rattle.rimjhodek.proofs.registers.rimjhodek_set_hardware.Reads as set_hardware_reads
use Rattle.rimjhodek.proofs.registers.rimjhodek_is_unused.Reads as is_unused_reads
use Rattle.rimjhodek.proofs.registers.rimjhodek_is_wide.Reads as is_wide_reads
use Rattle.rimjhodek.proofs.registers.rimjhodek_from_rs.Reads as from_rs_reads
use Rattle.rimjhodek.specs.contracts.registers.rimjhodek_numbers as numbers
use Rattle.rimjhodek.proofs.registers.rimjhodek_numbers.Reads as numbers_reads
use Rattle.rimjhodek.specs.contracts.clock.rimjhodek_count as count
use Rattle.rimjhodek.proofs.clock.rimjhodek_count.Reads as count_reads
use Rattle.rimjhodek.specs.contracts.clock.rimjhodek_timer_matches as timer_matches
use Rattle.rimjhodek.proofs.clock.rimjhodek_timer_matches.Reads as timer_matches_reads
use Rattle.rimjhodek.specs.contracts.clock.rimjhodek_timer_edge as timer_edge
use Rattle.rimjhodek.proofs.clock.rimjhodek_timer_edge.Reads as timer_edge_reads
use Rattle.rimjhodek.specs.contracts.clock.rimjhodek_count_ticks_until_timer_match as count_ticks_until_timer_match
use Rattle.rimjhodek.proofs.clock.rimjhodek_count_ticks_until_timer_match.Reads as count_ticks_until_timer_match_reads
use Rattle.rimjhodek.specs.contracts.clock.rimjhodek_advance as advance
use Rattle.rimjhodek.proofs.clock.rimjhodek_advance.Reads as advance_reads
use Rattle.rimjhodek.specs.contracts.interrupts.rimjhodek_set_ip as set_ip
use Rattle.rimjhodek.proofs.interrupts.rimjhodek_set_ip.Reads as set_ip_reads
use Rattle.rimjhodek.specs.contracts.interrupts.rimjhodek_interrupt_pending as interrupt_pending
use Rattle.rimjhodek.proofs.interrupts.rimjhodek_interrupt_pending.Reads as interrupt_pending_reads
use Rattle.rimjhodek.specs.contracts.interrupts.rimjhodek_tick_random as tick_random
use Rattle.rimjhodek.proofs.interrupts.rimjhodek_tick_random.Reads as tick_random_reads
use Rattle.rimjhodek.specs.contracts.interrupts.rimjhodek_tick_random_by as tick_random_by
use Rattle.rimjhodek.proofs.interrupts.rimjhodek_tick_random_by.Reads as tick_random_by_reads
use Rattle.rimjhodek.specs.contracts.table.rimjhodek_lookup as lookup
use Rattle.rimjhodek.proofs.table.rimjhodek_lookup.Reads as lookup_reads
use Rattle.rimjhodek.specs.contracts.table.rimjhodek_jtlb_has_match as jtlb_has_match
use Rattle.rimjhodek.proofs.table.rimjhodek_jtlb_has_match.Reads as jtlb_has_match_reads
use Rattle.rimjhodek.specs.contracts.table.rimjhodek_itlb_probe as itlb_probe
use Rattle.rimjhodek.proofs.table.rimjhodek_itlb_probe.Reads as itlb_probe_reads
use Rattle.rimjhodek.specs.contracts.table.rimjhodek_itlb_fill as itlb_fill
use Rattle.rimjhodek.proofs.table.rimjhodek_itlb_fill.Reads as itlb_fill_reads
use Rattle.rimjhodek.proofs.table.rimjhodek_page_size.Reads as page_size_reads
use Rattle.rimjhodek.proofs.table.rimjhodek_pair_size.Reads as pair_size_reads
use Rattle.rimjhodek.specs.contracts.moves.rimjhodek_tlb_new as tlb_new
use Rattle.rimjhodek.proofs.moves.rimjhodek_tlb_new.Reads as tlb_new_reads
use Rattle.rimjhodek.specs.contracts.moves.rimjhodek_write_entry as write_entry
use Rattle.rimjhodek.proofs.moves.rimjhodek_write_entry.Reads as write_entry_reads
use Rattle.rimjhodek.specs.contracts.moves.rimjhodek_read_entry as read_entry
use Rattle.rimjhodek.proofs.moves.rimjhodek_read_entry.Reads as read_entry_reads
use Rattle.rimjhodek.specs.contracts.moves.rimjhodek_probe as probe
use Rattle.rimjhodek.proofs.moves.rimjhodek_probe.Reads as probe_reads
use Rattle.rimjhodek.specs.contracts.translation.rimjhodek_translate_via as translate_via
use Rattle.rimjhodek.proofs.translation.rimjhodek_translate_via.Reads as translate_via_reads
use Rattle.rimjhodek.specs.contracts.sessions.rimjhodek_session_new as session_new
use Rattle.rimjhodek.proofs.sessions.rimjhodek_session_new.Reads as session_new_reads

abbrev planned : Plan → List ℕ → DataPlan
planned p d = record { plan = p; «data» = d }

abbrev flushed : Eviction → List ℕ → DataLine
flushed e d = record { eviction = e; «data» = d }

abbrev pushed : Eviction → List ℕ → InstructionLine
pushed e d = record { eviction = e; «data» = d }

pub data_new_unique : (κs : Lifetimes.Lfts 2) (a : World.ArgsD data_new.signature κs) (r r' : ℕ) (s s' : _)
    → data_new_reads.Post κs a r s → data_new_reads.Post κs a r' s' → (r ≡ r') × (s.0.now ≡ s'.0.now) × (s.1.0.now ≡ s'.1.0.now)
data_new_unique κs a r r' s s' p q = (same p.0 q.0, same p.1 q.1, same p.2 q.2)

pub data_hit_unique : (κs : Lifetimes.Lfts 1) (a : World.ArgsD data_hit.signature κs) (r r' : Bool) (s s' : _)
    → data_hit_reads.Post κs a r s → data_hit_reads.Post κs a r' s' → r ≡ r'
data_hit_unique κs a r r' s s' p q = same p q

pub data_hits_unique : (κs : Lifetimes.Lfts 1) (a : World.ArgsD data_hits.signature κs) (r r' : Flag) (s s' : _)
    → data_hits_reads.Post κs a r s → data_hits_reads.Post κs a r' s' → r ≡ r'
data_hits_unique κs a r r' s s' p q = same p q

pub data_miss_plan_unique : (κs : Lifetimes.Lfts 2) (a : World.ArgsD data_miss_plan.signature κs) (r r' : DataPlan) (s s' : _)
    → data_miss_plan_reads.Post κs a r s → data_miss_plan_reads.Post κs a r' s' → r ≡ r'
data_miss_plan_unique κs a r r' s s' p q = ap₂ planned (same p.0 q.0) (same p.1 q.1)

pub data_install_unique : (κs : Lifetimes.Lfts 3) (a : World.ArgsD data_install.signature κs) (r r' : ℕ) (s s' : _)
    → data_install_reads.Post κs a r s → data_install_reads.Post κs a r' s' → (r ≡ r') × (s.0.now ≡ s'.0.now) × (s.1.0.now ≡ s'.1.0.now)
data_install_unique κs a r r' s s' p q = (same p.0 q.0, same p.1 q.1, same p.2 q.2)

pub data_read_unique : (κs : Lifetimes.Lfts 1) (a : World.ArgsD data_read.signature κs) (r r' : Number) (s s' : _)
    → data_read_reads.Post κs a r s → data_read_reads.Post κs a r' s' → r ≡ r'
data_read_unique κs a r r' s s' p q = same p q

pub data_write_unique : (κs : Lifetimes.Lfts 2) (a : World.ArgsD data_write.signature κs) (r r' : ℕ) (s s' : _)
    → data_write_reads.Post κs a r s → data_write_reads.Post κs a r' s' → (r ≡ r') × (s.0.now ≡ s'.0.now) × (s.1.0.now ≡ s'.1.0.now)
data_write_unique κs a r r' s s' p q = (same p.0 q.0, same p.1 q.1, same p.2 q.2)

pub data_load_tag_unique : (κs : Lifetimes.Lfts 1) (a : World.ArgsD data_load_tag.signature κs) (r r' : Number) (s s' : _)
    → data_load_tag_reads.Post κs a r s → data_load_tag_reads.Post κs a r' s' → r ≡ r'
data_load_tag_unique κs a r r' s s' p q = same p q

pub data_store_tag_unique : (κs : Lifetimes.Lfts 1) (a : World.ArgsD data_store_tag.signature κs) (r r' : ℕ) (s s' : _)
    → data_store_tag_reads.Post κs a r s → data_store_tag_reads.Post κs a r' s' → (r ≡ r') × (s.0.now ≡ s'.0.now)
data_store_tag_unique κs a r r' s s' p q = (same p.0 q.0, same p.1 q.1)

pub data_flush_index_unique : (κs : Lifetimes.Lfts 2) (a : World.ArgsD data_flush_index.signature κs) (r r' : DataLine) (s s' : _)
    → data_flush_index_reads.Post κs a r s → data_flush_index_reads.Post κs a r' s' → (r ≡ r') × (s.1.0.now ≡ s'.1.0.now)
data_flush_index_unique κs a r r' s s' p q = (ap₂ flushed (same p.0 q.0) (same p.1 q.1), same p.2 q.2)

pub data_create_dirty_exclusive_unique : (κs : Lifetimes.Lfts 2) (a : World.ArgsD data_create_dirty_exclusive.signature κs) (r r' : DataLine) (s s' : _)
    → data_create_dirty_exclusive_reads.Post κs a r s → data_create_dirty_exclusive_reads.Post κs a r' s' → (r ≡ r') × (s.1.0.now ≡ s'.1.0.now)
data_create_dirty_exclusive_unique κs a r r' s s' p q = (ap₂ flushed (same p.0 q.0) (same p.1 q.1), same p.2 q.2)

pub data_resident_addr_unique : (κs : Lifetimes.Lfts 1) (a : World.ArgsD data_resident_addr.signature κs) (r r' : Number) (s s' : _)
    → data_resident_addr_reads.Post κs a r s → data_resident_addr_reads.Post κs a r' s' → r ≡ r'
data_resident_addr_unique κs a r r' s s' p q = same p q

pub instruction_new_unique : (κs : Lifetimes.Lfts 2) (a : World.ArgsD instruction_new.signature κs) (r r' : ℕ) (s s' : _)
    → instruction_new_reads.Post κs a r s → instruction_new_reads.Post κs a r' s' → (r ≡ r') × (s.0.now ≡ s'.0.now) × (s.1.0.now ≡ s'.1.0.now)
instruction_new_unique κs a r r' s s' p q = (same p.0 q.0, same p.1 q.1, same p.2 q.2)

pub instruction_hit_unique : (κs : Lifetimes.Lfts 1) (a : World.ArgsD instruction_hit.signature κs) (r r' : Bool) (s s' : _)
    → instruction_hit_reads.Post κs a r s → instruction_hit_reads.Post κs a r' s' → r ≡ r'
instruction_hit_unique κs a r r' s s' p q = same p q

pub instruction_hits_unique : (κs : Lifetimes.Lfts 1) (a : World.ArgsD instruction_hits.signature κs) (r r' : Flag) (s s' : _)
    → instruction_hits_reads.Post κs a r s → instruction_hits_reads.Post κs a r' s' → r ≡ r'
instruction_hits_unique κs a r r' s s' p q = same p q

pub instruction_read_word_unique : (κs : Lifetimes.Lfts 1) (a : World.ArgsD instruction_read_word.signature κs) (r r' : Number) (s s' : _)
    → instruction_read_word_reads.Post κs a r s → instruction_read_word_reads.Post κs a r' s' → r ≡ r'
instruction_read_word_unique κs a r r' s s' p q = same p q

pub instruction_install_unique : (κs : Lifetimes.Lfts 3) (a : World.ArgsD instruction_install.signature κs) (r r' : ℕ) (s s' : _)
    → instruction_install_reads.Post κs a r s → instruction_install_reads.Post κs a r' s' → (r ≡ r') × (s.0.now ≡ s'.0.now) × (s.1.0.now ≡ s'.1.0.now)
instruction_install_unique κs a r r' s s' p q = (same p.0 q.0, same p.1 q.1, same p.2 q.2)

pub instruction_load_tag_unique : (κs : Lifetimes.Lfts 1) (a : World.ArgsD instruction_load_tag.signature κs) (r r' : Number) (s s' : _)
    → instruction_load_tag_reads.Post κs a r s → instruction_load_tag_reads.Post κs a r' s' → r ≡ r'
instruction_load_tag_unique κs a r r' s s' p q = same p q

pub instruction_store_tag_unique : (κs : Lifetimes.Lfts 1) (a : World.ArgsD instruction_store_tag.signature κs) (r r' : ℕ) (s s' : _)
    → instruction_store_tag_reads.Post κs a r s → instruction_store_tag_reads.Post κs a r' s' → (r ≡ r') × (s.0.now ≡ s'.0.now)
instruction_store_tag_unique κs a r r' s s' p q = (same p.0 q.0, same p.1 q.1)

pub instruction_invalidate_index_unique : (κs : Lifetimes.Lfts 1) (a : World.ArgsD instruction_invalidate_index.signature κs) (r r' : ℕ) (s s' : _)
    → instruction_invalidate_index_reads.Post κs a r s → instruction_invalidate_index_reads.Post κs a r' s' → (r ≡ r') × (s.0.now ≡ s'.0.now)
instruction_invalidate_index_unique κs a r r' s s' p q = (same p.0 q.0, same p.1 q.1)

pub instruction_hit_invalidate_unique : (κs : Lifetimes.Lfts 1) (a : World.ArgsD instruction_hit_invalidate.signature κs) (r r' : ℕ) (s s' : _)
    → instruction_hit_invalidate_reads.Post κs a r s → instruction_hit_invalidate_reads.Post κs a r' s' → (r ≡ r') × (s.0.now ≡ s'.0.now)
instruction_hit_invalidate_unique κs a r r' s s' p q = (same p.0 q.0, same p.1 q.1)

pub instruction_flush_hit_unique : (κs : Lifetimes.Lfts 2) (a : World.ArgsD instruction_flush_hit.signature κs) (r r' : InstructionLine) (s s' : _)
    → instruction_flush_hit_reads.Post κs a r s → instruction_flush_hit_reads.Post κs a r' s' → r ≡ r'
instruction_flush_hit_unique κs a r r' s s' p q = ap₂ pushed (same p.0 q.0) (same p.1 q.1)

pub instruction_resident_addr_unique : (κs : Lifetimes.Lfts 1) (a : World.ArgsD instruction_resident_addr.signature κs) (r r' : Number) (s s' : _)
    → instruction_resident_addr_reads.Post κs a r s → instruction_resident_addr_reads.Post κs a r' s' → r ≡ r'
instruction_resident_addr_unique κs a r r' s s' p q = same p q

-- modes and exceptions
pub from_status_unique : (a : ℕ × Unit {0}) (r r' : Granted) → from_status_reads.Post tt a r a → from_status_reads.Post tt a r' a → r ≡ r'
from_status_unique a r r' = same

pub segment_unique : (a : ℕ × (By × Unit {0})) (r r' : Reached) → segment_reads.Post tt a r a → segment_reads.Post tt a r' a → r ≡ r'
segment_unique a r r' = same

pub dispatch_unique : (κs : Lifetimes.Lfts 1) (a : World.ArgsD dispatch.signature κs) (r r' : Taken) (s s' : _)
    → dispatch_reads.Post κs a r s → dispatch_reads.Post κs a r' s' → (r ≡ r') × (s.0.now ≡ s'.0.now)
dispatch_unique κs a r r' s s' p q = (same p.0 q.0, same p.1 q.1)

pub nmi_unique : (κs : Lifetimes.Lfts 1) (a : World.ArgsD nmi.signature κs) (r r' : Taken) (s s' : _)
    → nmi_reads.Post κs a r s → nmi_reads.Post κs a r' s' → (r ≡ r') × (s.0.now ≡ s'.0.now)
nmi_unique κs a r r' s s' p q = (same p.0 q.0, same p.1 q.1)

pub eret_unique : (κs : Lifetimes.Lfts 1) (a : World.ArgsD eret.signature κs) (r r' : ℕ) (s s' : _)
    → eret_reads.Post κs a r s → eret_reads.Post κs a r' s' → (r ≡ r') × (s.0.now ≡ s'.0.now)
eret_unique κs a r r' s s' p q = (same p.0 q.0, same p.1 q.1)

pub vector_unique : (a : ℕ × (ℕ × Unit {0})) (r r' : Number) → vector_reads.Post tt a r a → vector_reads.Post tt a r' a → r ≡ r'
vector_unique a r r' = same

pub exc_code_of_unique : (a : Exc × Unit {0}) (r r' : Number) → exc_code_of_reads.Post tt a r a → exc_code_of_reads.Post tt a r' a → r ≡ r'
exc_code_of_unique a r r' = same

pub vector_kind_of_unique : (a : Exc × Unit {0}) (r r' : Number) → vector_kind_of_reads.Post tt a r a → vector_kind_of_reads.Post tt a r' a → r ≡ r'
vector_kind_of_unique a r r' = same

pub writes_bad_vaddr_unique : (a : Exc × Unit {0}) (r r' : Flag) → writes_bad_vaddr_reads.Post tt a r a → writes_bad_vaddr_reads.Post tt a r' a → r ≡ r'
writes_bad_vaddr_unique a r r' = same

pub cop0_new_unique : (κs : Lifetimes.Lfts 1) (a : World.ArgsD cop0_new.signature κs) (r r' : _) (s s' : _)
    → cop0_new_reads.Post κs a r s → cop0_new_reads.Post κs a r' s' → s.0.now ≡ s'.0.now
cop0_new_unique κs a r r' s s' p q = same p q

pub mfc0_unique : (κs : Lifetimes.Lfts 1) (a : World.ArgsD mfc0.signature κs) (r r' : ℕ) (s s' : _)
    → mfc0_reads.Post κs a r s → mfc0_reads.Post κs a r' s' → r ≡ r'
mfc0_unique κs a r r' s s' p q = same p q

pub dmfc0_unique : (κs : Lifetimes.Lfts 1) (a : World.ArgsD dmfc0.signature κs) (r r' : ℕ) (s s' : _)
    → dmfc0_reads.Post κs a r s → dmfc0_reads.Post κs a r' s' → r ≡ r'
dmfc0_unique κs a r r' s s' p q = same p q

pub mtc0_unique : (κs : Lifetimes.Lfts 1) (a : World.ArgsD mtc0.signature κs) (r r' : _) (s s' : _)
    → mtc0_reads.Post κs a r s → mtc0_reads.Post κs a r' s' → s.0.now ≡ s'.0.now
mtc0_unique κs a r r' s s' p q = same p q

pub dmtc0_unique : (κs : Lifetimes.Lfts 1) (a : World.ArgsD dmtc0.signature κs) (r r' : _) (s s' : _)
    → dmtc0_reads.Post κs a r s → dmtc0_reads.Post κs a r' s' → s.0.now ≡ s'.0.now
dmtc0_unique κs a r r' s s' p q = same p q

pub write_unique : (κs : Lifetimes.Lfts 1) (a : World.ArgsD write.signature κs) (r r' : _) (s s' : _)
    → write_reads.Post κs a r s → write_reads.Post κs a r' s' → s.0.now ≡ s'.0.now
write_unique κs a r r' s s' p q = same p q

pub set_hardware_unique : (κs : Lifetimes.Lfts 1) (a : World.ArgsD set_hardware.signature κs) (r r' : _) (s s' : _)
    → set_hardware_reads.Post κs a r s → set_hardware_reads.Post κs a r' s' → s.0.now ≡ s'.0.now
set_hardware_unique κs a r r' s s' p q = same p q

pub is_unused_unique : (a : ℕ × Unit {0}) (r r' : Bool) → is_unused_reads.Post tt a r a → is_unused_reads.Post tt a r' a → r ≡ r'
is_unused_unique a r r' = same

pub is_wide_unique : (a : ℕ × Unit {0}) (r r' : Bool) → is_wide_reads.Post tt a r a → is_wide_reads.Post tt a r' a → r ≡ r'
is_wide_unique a r r' = same

pub from_rs_unique : (a : ℕ × Unit {0}) (r r' : Number) → from_rs_reads.Post tt a r a → from_rs_reads.Post tt a r' a → r ≡ r'
from_rs_unique a r r' = same

pub numbers_unique : (κs : Lifetimes.Lfts 1) (a : World.ArgsD numbers.signature κs) (r r' : _) (s s' : _)
    → numbers_reads.Post κs a r s → numbers_reads.Post κs a r' s' → s.0.now ≡ s'.0.now
numbers_unique κs a r r' s s' p q = same p q

pub count_unique : (κs : Lifetimes.Lfts 1) (a : World.ArgsD count.signature κs) (r r' : ℕ) (s s' : _)
    → count_reads.Post κs a r s → count_reads.Post κs a r' s' → r ≡ r'
count_unique κs a r r' s s' p q = same p q

pub timer_matches_unique : (κs : Lifetimes.Lfts 1) (a : World.ArgsD timer_matches.signature κs) (r r' : Bool) (s s' : _)
    → timer_matches_reads.Post κs a r s → timer_matches_reads.Post κs a r' s' → r ≡ r'
timer_matches_unique κs a r r' s s' p q = same p q

pub timer_edge_unique : (κs : Lifetimes.Lfts 1) (a : World.ArgsD timer_edge.signature κs) (r r' : Bool) (s s' : _)
    → timer_edge_reads.Post κs a r s → timer_edge_reads.Post κs a r' s' → (r ≡ r') × (s.0.now ≡ s'.0.now)
timer_edge_unique κs a r r' s s' p q = (same p.0 q.0, same p.1 q.1)

pub count_ticks_until_timer_match_unique : (κs : Lifetimes.Lfts 1) (a : World.ArgsD count_ticks_until_timer_match.signature κs) (r r' : ℕ) (s s' : _)
    → count_ticks_until_timer_match_reads.Post κs a r s → count_ticks_until_timer_match_reads.Post κs a r' s' → r ≡ r'
count_ticks_until_timer_match_unique κs a r r' s s' p q = same p q

pub advance_unique : (κs : Lifetimes.Lfts 1) (a : World.ArgsD advance.signature κs) (r r' : Flag) (s s' : _)
    → advance_reads.Post κs a r s → advance_reads.Post κs a r' s' → (r ≡ r') × (s.0.now ≡ s'.0.now)
advance_unique κs a r r' s s' p q = (same p.0 q.0, same p.1 q.1)

pub set_ip_unique : (κs : Lifetimes.Lfts 1) (a : World.ArgsD set_ip.signature κs) (r r' : _) (s s' : _)
    → set_ip_reads.Post κs a r s → set_ip_reads.Post κs a r' s' → s.0.now ≡ s'.0.now
set_ip_unique κs a r r' s s' p q = same p q

pub interrupt_pending_unique : (κs : Lifetimes.Lfts 1) (a : World.ArgsD interrupt_pending.signature κs) (r r' : Bool) (s s' : _)
    → interrupt_pending_reads.Post κs a r s → interrupt_pending_reads.Post κs a r' s' → r ≡ r'
interrupt_pending_unique κs a r r' s s' p q = same p q

pub tick_random_unique : (κs : Lifetimes.Lfts 1) (a : World.ArgsD tick_random.signature κs) (r r' : _) (s s' : _)
    → tick_random_reads.Post κs a r s → tick_random_reads.Post κs a r' s' → s.0.now ≡ s'.0.now
tick_random_unique κs a r r' s s' p q = same p q

pub tick_random_by_unique : (κs : Lifetimes.Lfts 1) (a : World.ArgsD tick_random_by.signature κs) (r r' : _) (s s' : _)
    → tick_random_by_reads.Post κs a r s → tick_random_by_reads.Post κs a r' s' → s.0.now ≡ s'.0.now
tick_random_by_unique κs a r r' s s' p q = same p q

-- the TLB
pub lookup_unique : (κs : Lifetimes.Lfts 1) (a : World.ArgsD lookup.signature κs) (r r' : Looked) (s s' : _)
    → lookup_reads.Post κs a r s → lookup_reads.Post κs a r' s' → (r ≡ r') × (s.0.now ≡ s'.0.now)
lookup_unique κs a r r' s s' p q = (same p.0 q.0, same p.1 q.1)

pub jtlb_has_match_unique : (κs : Lifetimes.Lfts 1) (a : World.ArgsD jtlb_has_match.signature κs) (r r' : Bool) (s s' : _)
    → jtlb_has_match_reads.Post κs a r s → jtlb_has_match_reads.Post κs a r' s' → r ≡ r'
jtlb_has_match_unique κs a r r' s s' p q = same p q

pub itlb_probe_unique : (κs : Lifetimes.Lfts 1) (a : World.ArgsD itlb_probe.signature κs) (r r' : Bool) (s s' : _)
    → itlb_probe_reads.Post κs a r s → itlb_probe_reads.Post κs a r' s' → (r ≡ r') × (s.0.now ≡ s'.0.now)
itlb_probe_unique κs a r r' s s' p q = (same p.0 q.0, same p.1 q.1)

pub itlb_fill_unique : (κs : Lifetimes.Lfts 1) (a : World.ArgsD itlb_fill.signature κs) (r r' : _) (s s' : _)
    → itlb_fill_reads.Post κs a r s → itlb_fill_reads.Post κs a r' s' → s.0.now ≡ s'.0.now
itlb_fill_unique κs a r r' s s' p q = same p q

pub page_size_unique : (a : ℕ × Unit {0}) (r r' : ℕ) → page_size_reads.Post tt a r a → page_size_reads.Post tt a r' a → r ≡ r'
page_size_unique a r r' = same

pub pair_size_unique : (a : ℕ × Unit {0}) (r r' : ℕ) → pair_size_reads.Post tt a r a → pair_size_reads.Post tt a r' a → r ≡ r'
pair_size_unique a r r' = same

pub tlb_new_unique : (κs : Lifetimes.Lfts 1) (a : World.ArgsD tlb_new.signature κs) (r r' : _) (s s' : _)
    → tlb_new_reads.Post κs a r s → tlb_new_reads.Post κs a r' s' → s.0.now ≡ s'.0.now
tlb_new_unique κs a r r' s s' p q = same p q

pub write_entry_unique : (κs : Lifetimes.Lfts 2) (a : World.ArgsD write_entry.signature κs) (r r' : _) (s s' : _)
    → write_entry_reads.Post κs a r s → write_entry_reads.Post κs a r' s' → s.0.now ≡ s'.0.now
write_entry_unique κs a r r' s s' p q = same p q

pub read_entry_unique : (κs : Lifetimes.Lfts 2) (a : World.ArgsD read_entry.signature κs) (r r' : _) (s s' : _)
    → read_entry_reads.Post κs a r s → read_entry_reads.Post κs a r' s' → s.1.1.0.now ≡ s'.1.1.0.now
read_entry_unique κs a r r' s s' p q = same p q

pub probe_unique : (κs : Lifetimes.Lfts 2) (a : World.ArgsD probe.signature κs) (r r' : _) (s s' : _)
    → probe_reads.Post κs a r s → probe_reads.Post κs a r' s' → s.1.0.now ≡ s'.1.0.now
probe_unique κs a r r' s s' p q = same p q

pub translate_via_unique : (κs : Lifetimes.Lfts 1) (a : World.ArgsD translate_via.signature κs) (r r' : Looked) (s s' : _)
    → translate_via_reads.Post κs a r s → translate_via_reads.Post κs a r' s' → (r ≡ r') × (s.0.now ≡ s'.0.now)
translate_via_unique κs a r r' s s' p q = (same p.0 q.0, same p.1 q.1)

pub session_new_unique : (κs : Lifetimes.Lfts 2) (a : World.ArgsD session_new.signature κs) (s s' : _)
    → session_new_reads.Post κs a tt s → session_new_reads.Post κs a tt s' → (s.0.now ≡ s'.0.now) × (s.1.0.now ≡ s'.1.0.now)
session_new_unique κs a s s' p q = (same p.0 q.0, same p.1 q.1)
