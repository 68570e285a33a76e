-- Q1, the numbers of document 02's first request: entries 0 and 31 answer by their own, and a direct segment by 32.
use Rattle.std.specs.Prelude.{true, false, List, [], ◌∷◌, ℕ, set}
use Rattle.tlb.specs.declared.entries.PageEntry.{PageEntry}
use Rattle.tlb.specs.declared.entries.Entry.{Entry}
use Rattle.tlb.specs.declared.table.Tlb.{Tlb}
use Rattle.tlb.specs.Entries.{told_lookup}
use Rattle.tlb.specs.Table.{fresh_from, fresh_table}
use Rattle.tlb.specs.Lookup.{lookup_answer}
use Rattle.addr.specs.Access.{kernel_access}
use Rattle.addr.specs.Answers.{told_translate}
use Rattle.addr.specs.Translate.{translate_answer}
use Rattle.numbers.specs.Table.{NumberRow, row, answer}

-- frame 1, cached, dirty and valid
abbrev page : PageEntry
page = record { pfn = 1; c = 3; dirty = true; valid = true }

-- both halves of the pair at 4000
abbrev pair : Entry
pair = record { page_mask = 0; vpn2 = 0x4000; asid = 0; global = false; region = 0; lo0 = page; lo1 = page }

-- a fresh table but for entry i
abbrev with_entry : ℕ → Tlb
with_entry i = record { entries = set (fresh_from 0 32) i pair; itlb = 32 ∷ 32 ∷ []; itlb_lru = 0; shutdown = false }

abbrev looked : ℕ → List ℕ
looked i = answer (told_lookup (lookup_answer (with_entry i) 0x5ABC 0 true))

abbrev translated : Tlb → ℕ → List ℕ
translated t v = answer (told_translate (translate_answer t v 0 true kernel_access))

abbrev pub q1 : List NumberRow
q1 =
    row (looked 0) (0 ∷ 0x1ABC ∷ 0 ∷ 0 ∷ [])
    ∷ row (looked 31) (0 ∷ 0x1ABC ∷ 0 ∷ 31 ∷ [])
    ∷ row (translated (with_entry 31) 0x5ABC) (0 ∷ 0x1ABC ∷ 1 ∷ 31 ∷ [])
    ∷ row (translated fresh_table 0xFFFF_FFFF_A000_5ABC) (0 ∷ 0x5ABC ∷ 0 ∷ 32 ∷ [])
    ∷ []
