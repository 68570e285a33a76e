-- The manual's reading of an entry that has one of its page sizes (5.1; table 5-7): 4, 16, 64 and 256 KiB, 1, 4 and 16 MiB.
use Rattle.std.specs.Prelude.{Bool, cond, ◌&&◌, ◌||◌, ℕ, ◌+◌, ◌-◌, ◌*◌, ◌/◌, ◌%◌, ◌^◌, eqb, leb, ltb, Result, Ok}
use Rattle.bits.specs.Field.{field_of}
use Rattle.tlb.specs.declared.entries.PageEntry.{PageEntry}
use Rattle.tlb.specs.declared.entries.Entry.{Entry}
use Rattle.tlb.specs.declared.entries.Translated.{Translated}
use Rattle.tlb.specs.declared.entries.TlbFault.{TlbFault}
use Rattle.tlb.specs.Entries.{uncached_of, permitted}
use Rattle.tlb.specs.Moves.{page_of, global_of}

-- page size k, from 0 (4 KiB) to 6 (16 MiB), and its mask: ones from bit 13 up
abbrev pub size_at : ℕ → ℕ
size_at k = 2 ^ (12 + 2 * k)

abbrev pub mask_at : ℕ → ℕ
mask_at k = 2 ^ (13 + 2 * k) - 2 ^ 13

-- the address lies in the pair's range: two pages from the base up
abbrev pub in_pair : ℕ → ℕ → ℕ → Bool
in_pair k base v = leb base (field_of v 39 0) && ltb (field_of v 39 0) (base + 2 * size_at k)

-- in the entry's region and range, and global or of its ASID
abbrev pub matches_at : ℕ → Entry → ℕ → ℕ → Bool
matches_at k e v asid = eqb (field_of v 63 62) e.region && in_pair k e.vpn2 v && (e.global || eqb e.asid asid)

-- the even page comes first in the pair
abbrev pub half_at : ℕ → Entry → ℕ → PageEntry
half_at k e v = cond (ltb (v % (2 * size_at k)) (size_at k)) e.lo0 e.lo1

-- the frame's base, which is a multiple of the page size, plus the offset within the page
abbrev pub address_at : ℕ → ℕ → ℕ → ℕ
address_at k pfn v = pfn * 4096 / size_at k * size_at k + v % size_at k

-- of a half of entry i
abbrev pub translated_at : ℕ → ℕ → PageEntry → ℕ → Result Translated TlbFault
translated_at k i p v = Ok (record { addr = address_at k p.pfn v; uncached = uncached_of p; entry = i })

abbrev pub page_answer_at : ℕ → ℕ → PageEntry → ℕ → Bool → Result Translated TlbFault
page_answer_at k i p v store = permitted p store (translated_at k i p v)

-- the pair that an address lies in: its base, a multiple of two pages
abbrev pub pair_at : ℕ → ℕ → ℕ
pair_at k v = field_of v 39 0 / (2 * size_at k) * (2 * size_at k)

-- the entry that a write makes of PageMask at size k, EntryHi, EntryLo0 and EntryLo1
abbrev pub entry_of_size : ℕ → ℕ → ℕ → ℕ → Entry
entry_of_size k hi lo0 lo1 =
    record {
      page_mask = mask_at k;
      vpn2 = pair_at k hi;
      asid = field_of hi 7 0;
      global = global_of lo0 lo1;
      region = field_of hi 63 62;
      lo0 = page_of lo0;
      lo1 = page_of lo1;
    }
