-- One entry: when it matches, its page sizes and what its halves answer (5.1, 5.4.9; figure 5-10, tables 5-6 and 5-7).
use Rattle.std.specs.Prelude.{Bool, cond, ◌&&◌, ◌||◌, [], ◌∷◌, ℕ, ◌+◌, ◌-◌, ◌*◌, ◌/◌, ◌^◌, eqb, Result, Ok, Err}
use Rattle.std.specs.Int.Bits.{bit_and, bit_or}
use Rattle.bits.specs.Told.{Told, answered}
use Rattle.bits.specs.Field.{field_of, bit}
use Rattle.bits.specs.Mask.{merged, cleared}
use Rattle.bits.specs.Extension.{low32_of}
use Rattle.tlb.specs.declared.entries.PageEntry.{PageEntry}
use Rattle.tlb.specs.declared.entries.Entry.{Entry}
use Rattle.tlb.specs.declared.entries.TlbFault.{TlbFault}
use Rattle.tlb.specs.declared.entries.TlbFault.TheVariants.{Refill, Invalid, Modified}
use Rattle.tlb.specs.declared.entries.Translated.{Translated}

-- address bits 39..13 in place, with the mask's bits cleared
abbrev pub vpn2_of : ℕ → ℕ → ℕ
vpn2_of mask v = cleared mask (field_of v 39 13 * 2 ^ 13)

-- equal region (bits 63..62), equal VPN2 outside the mask and, unless global, equal ASID; bits 61..40 are not compared
unfoldable pub matches_of : Entry → ℕ → ℕ → Bool
matches_of e v asid =
    eqb (field_of v 63 62) e.region && eqb (vpn2_of e.page_mask v) e.vpn2 && (e.global || eqb e.asid asid)

-- (mask or 0x1FFF) plus 1 bytes to a pair, and half of that to a page
abbrev pub pair_size_of : ℕ → ℕ
pair_size_of mask = bit_or mask 0x1FFF + 1

unfoldable pub page_size_of : ℕ → ℕ
page_size_of mask = pair_size_of mask / 2

-- the even half where the address and the page size share no set bit
unfoldable pub half_of : Entry → ℕ → PageEntry
half_of e v = cond (eqb (bit_and v (page_size_of e.page_mask)) 0) e.lo0 e.lo1

-- only attribute 2 is uncached
abbrev pub uncached_of : PageEntry → Bool
uncached_of p = eqb p.c 2

-- the frame number times 4096, with the bits of m replaced by the address's; m is the page size less 1
abbrev pub physical_of : ℕ → ℕ → ℕ → ℕ
physical_of pfn m v = low32_of (merged m v (pfn * 4096))

-- of a half of entry i
abbrev pub translated : ℕ → PageEntry → ℕ → ℕ → Result Translated TlbFault
translated i p m v = Ok (record { addr = physical_of p.pfn m v; uncached = uncached_of p; entry = i })

-- not valid: Invalid; a store to a half that is not dirty: Modified; else what is given
abbrev pub permitted : PageEntry → Bool → Result Translated TlbFault → Result Translated TlbFault
permitted p store given = cond p.valid (cond store (cond p.dirty given (Err Modified)) given) (Err Invalid)

unfoldable pub half_answer : ℕ → PageEntry → ℕ → ℕ → Bool → Result Translated TlbFault
half_answer i p m v store = permitted p store (translated i p m v)

-- of entry i, which is e
unfoldable pub entry_answer : ℕ → Entry → ℕ → Bool → Result Translated TlbFault
entry_answer i e v store = half_answer i (half_of e v) (page_size_of e.page_mask - 1) v store

-- the number of each fault
abbrev pub fault_number : TlbFault → ℕ
fault_number Refill = 0
fault_number Invalid = 1
fault_number Modified = 2

-- the values of each answer: the address, whether it is uncached and the entry's number, or the fault's number
abbrev pub told_lookup : Result Translated TlbFault → Told
told_lookup (Ok t) = answered (t.addr ∷ bit t.uncached ∷ t.entry ∷ [])
told_lookup (Err f) = answered (fault_number f ∷ [])
