-- What a lookup answers and what it leaves, by the entries that match: none, exactly one, or more.
use Rattle.std.specs.Prelude.{Bool, true, cond, List, [], ◌∷◌, ℕ, Result, Err}
use Rattle.tlb.specs.declared.entries.TlbFault.TheVariants.{Refill}
use Rattle.tlb.specs.declared.table.Tlb.{Tlb}
use Rattle.tlb.specs.declared.entries.Translated.{Translated}
use Rattle.tlb.specs.declared.entries.TlbFault.{TlbFault}
use Rattle.tlb.specs.Entries.{entry_answer}
use Rattle.tlb.specs.Table.{entry_at, matching}

-- the answer of the one entry that matches, with its number
abbrev pub answer_by : Tlb → List ℕ → ℕ → Bool → Result Translated TlbFault
answer_by t [] v store = Err Refill
answer_by t (i ∷ []) v store = entry_answer i (entry_at t i) v store
answer_by t (i ∷ j ∷ is) v store = Err Refill

abbrev pub shut_down : Tlb → Tlb
shut_down t = record { entries = t.entries; itlb = t.itlb; itlb_lru = t.itlb_lru; shutdown = true }

-- a second match sets shutdown
abbrev pub table_by : Tlb → List ℕ → Tlb
table_by t [] = t
table_by t (i ∷ []) = t
table_by t (i ∷ j ∷ is) = shut_down t

-- shut down gives Refill
unfoldable pub lookup_answer : Tlb → ℕ → ℕ → Bool → Result Translated TlbFault
lookup_answer t v asid store = cond t.shutdown (Err Refill) (answer_by t (matching t.entries v asid 0) v store)

unfoldable pub lookup_table : Tlb → ℕ → ℕ → Tlb
lookup_table t v asid = cond t.shutdown t (table_by t (matching t.entries v asid 0))

abbrev pub is_shutdown_of : Tlb → Bool
is_shutdown_of t = t.shutdown
