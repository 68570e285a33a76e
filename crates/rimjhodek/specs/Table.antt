-- The TLB as 132 words. Entry i is words 4i to 4i + 3: PageMask, EntryHi, EntryLo0 and EntryLo1 (figure 5-10). Words 128 and 129
-- are the micro-TLB's slots, 130 its next slot, 131 whether the TLB is shut down.
use Rattle.std.specs.Prelude.{ℕ, zero, suc, ◌+◌, ◌*◌, ◌/◌, ◌%◌, ◌^◌, Bool, false, cond, ◌&&◌, ◌||◌, Option, Some, None, List, [], ◌∷◌, ◌++◌, set, replicate, ◌==◌, nat_lt, slice_index, slice_set, Result, Ok, Err}
use Rattle.bits.specs.Field.{field_of, bit}
use Rattle.bits.specs.Mask.{cleared}
use Rattle.bits.specs.Extension.{low32_of}
use Rattle.tlb.specs.declared.entries.Entry.{Entry}
use Rattle.tlb.specs.declared.table.Tlb.{Tlb}
use Rattle.tlb.specs.Entries.{fault_number}
use Rattle.tlb.specs.Micro.{lowest}
use Rattle.tlb.specs.Words.{entry_of_words, hi_word, lo_word}
use Rattle.rimjhodek.specs.declared.table.Looked.{Looked}
use Rattle.tlb.specs.declared.entries.Translated.{Translated}
use Rattle.tlb.specs.declared.entries.TlbFault.{TlbFault}
use Rattle.rimjhodek.specs.Registers.{over}

abbrev pub word_in : List ℕ → ℕ → ℕ → ℕ
word_in ws i k = slice_index ws (4 * i + k)

unfoldable pub entry_in : List ℕ → ℕ → Entry
entry_in ws i = entry_of_words (slice_index ws (4 * i)) (word_in ws i 1) (word_in ws i 2) (word_in ws i 3)

-- n entries, the first of them entry i
unfoldable pub entries_from : List ℕ → ℕ → ℕ → List Entry
entries_from ws i zero = []
entries_from ws i (suc n) = entry_in ws i ∷ entries_from ws (suc i) n

abbrev pub entries_in : List ℕ → List Entry
entries_in ws = entries_from ws 0 32

-- the number of an entry, or none: 32
abbrev pub if_below : ℕ → Option ℕ
if_below i = cond (nat_lt i 32) (Some i) None

-- of the entries that match: the one, 32 for none, 64 for more
abbrev pub only_of : List ℕ → ℕ
only_of [] = 32
only_of (i ∷ []) = i
only_of (i ∷ j ∷ is) = 64

-- R and VPN2 in place
abbrev pub tag_of : ℕ → ℕ
tag_of x = field_of x 63 62 * 2 ^ 62 + field_of x 39 13 * 2 ^ 13

-- an address with an ASID, as EntryHi has them
abbrev pub key_of : ℕ → ℕ → ℕ
key_of v asid = v / 2 ^ 8 * 2 ^ 8 + asid

-- equal R and VPN2 outside the mask, and equal ASID or G
unfoldable pub key_hits : ℕ → ℕ → ℕ → ℕ → Bool
key_hits mask hi lo0 key =
    (cleared (low32_of mask) (tag_of key) == cleared (low32_of mask) (tag_of hi))
    && (field_of lo0 0 0 == 1 || field_of hi 7 0 == field_of key 7 0)

-- the entry whose words begin at place `at`
abbrev pub hits_at : List ℕ → ℕ → ℕ → Bool
hits_at ws at key = key_hits (slice_index ws at) (slice_index ws (at + 1)) (slice_index ws (at + 2)) key

abbrev pub word_hits : List ℕ → ℕ → ℕ → Bool
word_hits ws i key = hits_at ws (4 * i) key

-- the place that is found, with one more entry asked
unfoldable pub turned : Bool → ℕ → ℕ → ℕ
turned hit at found = cond hit (cond (found == 128) at 256) found

-- the table that 132 words mean; of the slots and the next slot the low 8 bits, of the shutdown the lowest
abbrev pub table_in : List ℕ → Tlb
table_in ws =
    record {
      entries = entries_in ws;
      itlb = slice_index ws 128 % 2 ^ 8 ∷ slice_index ws 129 % 2 ^ 8 ∷ [];
      itlb_lru = slice_index ws 130 % 2 ^ 8;
      shutdown = (slice_index ws 131 % 2 == 1);
    }

-- all of a table but its entries put into words; bits that mean nothing stay
unfoldable pub put_micro : List ℕ → Tlb → List ℕ
put_micro ws t =
    set
    (set
    (slice_set (slice_set ws 128 (over 8 (slice_index ws 128) (slice_index t.itlb 0))) 129 (over 8 (slice_index ws 129) (slice_index t.itlb 1)))
    130
    (over 8 (slice_index ws 130) t.itlb_lru))
    131
    (over 1 (slice_index ws 131) (bit t.shutdown))

-- an entry put into its four words
abbrev pub put_entry : List ℕ → ℕ → Entry → List ℕ
put_entry ws i e =
    set (slice_set (slice_set (slice_set ws (4 * i) e.page_mask) (4 * i + 1) (hi_word e)) (4 * i + 2) (lo_word e.lo0 e.global))
    (4 * i + 3) (lo_word e.lo1 e.global)

-- an entry's four words, and those of entries in a row
abbrev pub entry_words : Entry → List ℕ
entry_words e = e.page_mask ∷ hi_word e ∷ lo_word e.lo0 e.global ∷ lo_word e.lo1 e.global ∷ []

unfoldable pub entries_words : List Entry → List ℕ
entries_words [] = []
entries_words (e ∷ es) = entry_words e ++ entries_words es

-- the words of a table: no bit is set that means nothing
unfoldable pub table_words : Tlb → List ℕ
table_words t =
    entries_words t.entries
    ++ (slice_index t.itlb 0 ∷ slice_index t.itlb 1 ∷ t.itlb_lru ∷ bit t.shutdown ∷ [])

-- the slots empty
abbrev pub emptied : List ℕ → List ℕ
emptied ws = slice_set (slice_set ws 128 (over 8 (slice_index ws 128) 32)) 129 (over 8 (slice_index ws 129) 32)

-- a table of one entry alone
abbrev pub filled_with : Entry → Tlb
filled_with e = record { entries = replicate 32 e; itlb = 32 ∷ 32 ∷ []; itlb_lru = 0; shutdown = false }

-- the lowest entry that matches EntryHi's own address and ASID, or 8000_0000
unfoldable pub index_for : List ℕ → ℕ → ℕ
index_for ws hi =
    let i : ℕ = lowest (table_in ws) hi (field_of hi 7 0) in
    cond (nat_lt i 32) i 0x8000_0000

-- no address, by the number of the error
abbrev pub failed : ℕ → Looked
failed n = record { error = n; uncached = false; entry = 0; addr = 0 }

-- error 0 is none; a fault is its number and 1
abbrev pub looked_of : Result Translated TlbFault → Looked
looked_of (Ok t) = record { error = 0; uncached = t.uncached; entry = t.entry; addr = t.addr }
looked_of (Err f) = failed (1 + fault_number f)
