-- A lookup's answer before it had the entry's number: the address and whether it is uncached, or the fault's number.
use Rattle.std.specs.Prelude.{Bool, cond, List, [], ◌∷◌, ℕ, ◌-◌, take}
use Rattle.bits.specs.Told.{Told, answered}
use Rattle.bits.specs.Field.{bit}
use Rattle.tlb.specs.declared.entries.PageEntry.{PageEntry}
use Rattle.tlb.specs.declared.entries.Entry.{Entry}
use Rattle.tlb.specs.declared.entries.TlbFault.{TlbFault}
use Rattle.tlb.specs.declared.entries.TlbFault.TheVariants.{Refill, Invalid, Modified}
use Rattle.tlb.specs.declared.table.Tlb.{Tlb}
use Rattle.tlb.specs.Entries.{page_size_of, half_of, uncached_of, physical_of, fault_number}
use Rattle.tlb.specs.Table.{entry_at, matching}

-- an answer without its number, which comes third
abbrev pub unnumbered : Told → Told
unnumbered t = record { number = t.number; values = take 2 t.values }

abbrev pub fault : TlbFault → Told
fault f = answered (fault_number f ∷ [])

abbrev pub former_page : PageEntry → ℕ → ℕ → Told
former_page p m v = answered (physical_of p.pfn m v ∷ bit (uncached_of p) ∷ [])

abbrev pub former_half : PageEntry → ℕ → ℕ → Bool → Told
former_half p m v store =
    cond p.valid (cond store (cond p.dirty (former_page p m v) (fault Modified)) (former_page p m v)) (fault Invalid)

abbrev pub former_entry : Entry → ℕ → Bool → Told
former_entry e v store = former_half (half_of e v) (page_size_of e.page_mask - 1) v store

-- by the entries that match
abbrev pub former_by : Tlb → List ℕ → ℕ → Bool → Told
former_by t [] v store = fault Refill
former_by t (i ∷ []) v store = former_entry (entry_at t i) v store
former_by t (i ∷ j ∷ is) v store = fault Refill

unfoldable pub former_lookup : Tlb → ℕ → ℕ → Bool → Told
former_lookup t v asid store = cond t.shutdown (fault Refill) (former_by t (matching t.entries v asid 0) v store)
