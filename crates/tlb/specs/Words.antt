-- An entry as four words, in the form of PageMask, EntryHi, EntryLo0 and EntryLo1 (figure 5-10).
use Rattle.std.specs.Prelude.{Bool, ℕ, ◌+◌, ◌*◌, ◌%◌, ◌^◌, eqb}
use Rattle.bits.specs.Field.{field_of, bit}
use Rattle.bits.specs.Extension.{low32_of}
use Rattle.tlb.specs.declared.entries.PageEntry.{PageEntry}
use Rattle.tlb.specs.declared.entries.Entry.{Entry}
use Rattle.tlb.specs.Entries.{vpn2_of}
use Rattle.tlb.specs.Moves.{page_of}

-- EntryHi: R 63..62, VPN2 39..13 in place, of which bits under the mask mean nothing, ASID 7..0; G is EntryLo0's
abbrev pub entry_of_words : ℕ → ℕ → ℕ → ℕ → Entry
entry_of_words mask hi lo0 lo1 =
    record {
      page_mask = low32_of mask;
      vpn2 = vpn2_of (low32_of mask) hi;
      asid = field_of hi 7 0;
      global = eqb (field_of lo0 0 0) 1;
      region = field_of hi 63 62;
      lo0 = page_of lo0;
      lo1 = page_of lo1;
    }

abbrev pub hi_word : Entry → ℕ
hi_word e = e.region % 4 * 2 ^ 62 + field_of e.vpn2 39 13 * 2 ^ 13 + e.asid

-- G in both halves
abbrev pub lo_word : PageEntry → Bool → ℕ
lo_word p g = p.pfn % 2 ^ 20 * 2 ^ 6 + p.c % 2 ^ 3 * 2 ^ 3 + bit p.dirty * 2 ^ 2 + bit p.valid * 2 + bit g
