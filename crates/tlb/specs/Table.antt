-- The table: its fresh entries, and which of its entries match an address.
use Rattle.std.specs.Prelude.{Bool, true, false, cond, ◌&&◌, List, [], ◌∷◌, ℕ, zero, suc, ◌-◌, ◌*◌, leb, Option, Some, None, get_or}
use Rattle.tlb.specs.declared.entries.PageEntry.{PageEntry}
use Rattle.tlb.specs.declared.entries.Entry.{Entry}
use Rattle.tlb.specs.declared.table.Tlb.{Tlb}
use Rattle.tlb.specs.declared.table.Hits.{Hits}
use Rattle.tlb.specs.declared.table.Hits.TheVariants as hits
use Rattle.tlb.specs.Entries.{matches_of}

abbrev pub zero_half : PageEntry
zero_half = record { pfn = 0; c = 0; dirty = false; valid = false }

abbrev pub with_vpn2 : ℕ → Entry
with_vpn2 x = record { page_mask = 0; vpn2 = x; asid = 0; global = false; region = 0; lo0 = zero_half; lo1 = zero_half }

-- entry i has VPN2 (7FF_FFFF - i) x 8192, and all else zero
abbrev pub fresh_entry : ℕ → Entry
fresh_entry i = with_vpn2 ((0x7FF_FFFF - i) * 8192)

-- n fresh entries, the first of them entry i
unfoldable pub fresh_from : ℕ → ℕ → List Entry
fresh_from i zero = []
fresh_from i (suc n) = fresh_entry i ∷ fresh_from (suc i) n

-- the micro-TLB is empty, its next slot 0, and shutdown is off
abbrev pub fresh_table : Tlb
fresh_table = record { entries = fresh_from 0 32; itlb = 32 ∷ 32 ∷ []; itlb_lru = 0; shutdown = false }

-- an entry by its number
abbrev pub entry_at : Tlb → ℕ → Entry
entry_at t i = get_or t.entries i (with_vpn2 0)

-- the numbers of the entries that match, rising, where the first of the list has number i
unfoldable pub matching : List Entry → ℕ → ℕ → ℕ → List ℕ
matching [] v asid i = []
matching (e ∷ es) v asid i = cond (matches_of e v asid) (i ∷ matching es v asid (suc i)) (matching es v asid (suc i))

-- a rising list of numbers from b up
unfoldable pub rising_from : ℕ → List ℕ → Bool
rising_from b [] = true
rising_from b (i ∷ is) = leb b i && rising_from (suc i) is

-- the first of a list, or 32
abbrev pub head_of : List ℕ → ℕ
head_of [] = 32
head_of (i ∷ is) = i

-- two or more
abbrev pub several : List ℕ → Bool
several [] = false
several (i ∷ []) = false
several (i ∷ j ∷ is) = true

-- what the scan answers of them: none, the one, or the first of several
abbrev pub hits_of : List ℕ → Hits
hits_of [] = hits.None
hits_of (i ∷ []) = hits.One i
hits_of (i ∷ j ∷ is) = hits.Several i

-- and the first of those
abbrev pub first_of : Hits → Option ℕ
first_of hits.None = None
first_of (hits.One i) = Some i
first_of (hits.Several i) = Some i
