-- The micro-TLB (4.6.2): two entry numbers, and the slot that is filled next.
use Rattle.std.specs.Prelude.{Bool, true, false, cond, List, ℕ, ◌-◌, ◌%◌, ltb, get_or, set}
use Rattle.tlb.specs.declared.table.Tlb.{Tlb}
use Rattle.tlb.specs.declared.micro.ItlbProbed.{ItlbProbed}
use Rattle.tlb.specs.Entries.{matches_of}
use Rattle.tlb.specs.Table.{entry_at, matching, head_of}

-- the table with other micro-TLB slots and another next slot
abbrev pub with_itlb : Tlb → List ℕ → ℕ → Tlb
with_itlb t slots next = record { entries = t.entries; itlb = slots; itlb_lru = next; shutdown = t.shutdown }

-- the lowest entry that matches, or 32
unfoldable pub lowest : Tlb → ℕ → ℕ → ℕ
lowest t v asid = head_of (matching t.entries v asid 0)

-- no once shut down
unfoldable pub has_match_of : Tlb → ℕ → ℕ → Bool
has_match_of t v asid = cond t.shutdown false (ltb (lowest t v asid) 32)

-- a number from 32 up is an empty slot
unfoldable pub slot_hits : Tlb → ℕ → ℕ → ℕ → Bool
slot_hits t slot v asid = cond (ltb slot 32) (matches_of (entry_at t slot) v asid) false

-- slot 0, then slot 1; a hit makes the other slot next
unfoldable pub probed_of : Tlb → ℕ → ℕ → ItlbProbed
probed_of t v asid =
    cond (slot_hits t (get_or t.itlb 0 0) v asid) (record { hit = true; tlb = with_itlb t t.itlb 1 })
    (cond (slot_hits t (get_or t.itlb 1 0) v asid) (record { hit = true; tlb = with_itlb t t.itlb 0 })
    (record { hit = false; tlb = t }))

-- the lowest match goes into the next slot, taken modulo 2, and the other slot is next; without a match nothing changes
unfoldable pub filled_of : Tlb → ℕ → ℕ → Tlb
filled_of t v asid =
    cond (ltb (lowest t v asid) 32)
    (with_itlb t (set t.itlb (t.itlb_lru % 2) (lowest t v asid)) (1 - t.itlb_lru % 2)) t
