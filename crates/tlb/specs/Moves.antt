-- Entries to and from the registers (figures 5-10 and 5-11, table 5-7).
use Rattle.std.specs.Prelude.{Bool, cond, ◌&&◌, [], ◌∷◌, ℕ, zero, suc, ◌+◌, ◌*◌, ◌/◌, ◌%◌, ◌^◌, eqb, ltb, set}
use Rattle.std.specs.Int.Bits.{bit_or}
use Rattle.bits.specs.Field.{field_of, bit}
use Rattle.cop0.specs.declared.registers.Cop0.{Cop0}
use Rattle.cop0.specs.Registers.{Index, EntryLo0, EntryLo1, PageMask, EntryHi}
use Rattle.cop0.specs.File.{read_of, set_hardware_of}
use Rattle.tlb.specs.declared.entries.PageEntry.{PageEntry}
use Rattle.tlb.specs.declared.entries.Entry.{Entry}
use Rattle.tlb.specs.declared.table.Tlb.{Tlb}
use Rattle.tlb.specs.Entries.{vpn2_of}
use Rattle.tlb.specs.Table.{entry_at}
use Rattle.tlb.specs.Micro.{lowest}

-- the lowest n pairs of bits of x, each 11 where its upper bit is 1, else 00
unfoldable pub pairs : ℕ → ℕ → ℕ
pairs zero x = 0
pairs (suc n) x = pairs n (x / 4) * 4 + 3 * field_of x 1 1

-- a page mask has six pairs from bit 13 up
abbrev pub canonical_of : ℕ → ℕ
canonical_of mask = pairs 6 (mask / 2 ^ 13) * 2 ^ 13

-- EntryLo: PFN 25..6, C 5..3, D 2, V 1, G 0
abbrev pub page_of : ℕ → PageEntry
page_of lo =
    record {
      pfn = field_of lo 25 6;
      c = field_of lo 5 3;
      dirty = eqb (field_of lo 2 2) 1;
      valid = eqb (field_of lo 1 1) 1;
    }

-- G of both halves
unfoldable pub global_of : ℕ → ℕ → Bool
global_of lo0 lo1 = eqb (field_of lo0 0 0) 1 && eqb (field_of lo1 0 0) 1

abbrev pub written_mask : Cop0 → ℕ
written_mask c = canonical_of (read_of c PageMask)

-- EntryHi: R 63..62, VPN2 39..13, ASID 7..0
unfoldable pub entry_of : Cop0 → Entry
entry_of c =
    record {
      page_mask = written_mask c;
      vpn2 = vpn2_of (written_mask c) (read_of c EntryHi);
      asid = field_of (read_of c EntryHi) 7 0;
      global = global_of (read_of c EntryLo0) (read_of c EntryLo1);
      region = field_of (read_of c EntryHi) 63 62;
      lo0 = page_of (read_of c EntryLo0);
      lo1 = page_of (read_of c EntryLo1);
    }

-- one entry is replaced and the micro-TLB is emptied; its next slot and the shutdown flag stay
unfoldable pub written_of : Tlb → ℕ → Cop0 → Tlb
written_of t i c =
    record {
      entries = set t.entries (i % 32) (entry_of c);
      itlb = 32 ∷ 32 ∷ [];
      itlb_lru = t.itlb_lru;
      shutdown = t.shutdown;
    }

-- the fields joined at their places
abbrev pub lo_of : PageEntry → Bool → ℕ
lo_of p g = bit_or (bit_or (bit_or (bit_or (p.pfn * 2 ^ 6) (p.c * 2 ^ 3)) (bit p.dirty * 2 ^ 2)) (bit p.valid * 2)) (bit g)

abbrev pub hi_of : Entry → ℕ
hi_of e = bit_or (bit_or (e.region % 4 * 2 ^ 62) e.vpn2) e.asid

-- the entry's registers, each under the bits that it has
unfoldable pub read_entry_of : Tlb → ℕ → Cop0 → Cop0
read_entry_of t i c =
    let e : Entry = entry_at t (i % 32) in
    set_hardware_of (set_hardware_of (set_hardware_of (set_hardware_of c PageMask e.page_mask) EntryHi (hi_of e)) EntryLo0 (lo_of e.lo0 e.global))
    EntryLo1 (lo_of e.lo1 e.global)

-- the lowest entry that matches EntryHi's own address and ASID goes to Index, or 8000_0000
unfoldable pub probe_of : Tlb → Cop0 → Cop0
probe_of t c =
    let i : ℕ = lowest t (read_of c EntryHi) (field_of (read_of c EntryHi) 7 0) in
    set_hardware_of c Index (cond (ltb i 32) i 0x8000_0000)
