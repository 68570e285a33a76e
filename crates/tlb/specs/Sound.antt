-- The entries and tables that operations can make.
use Rattle.std.specs.Prelude.{◌≡◌, List, ℕ, ◌^◌, ◌<◌, ◌≤◌, length, get_or}
use Rattle.tlb.specs.declared.entries.PageEntry.{PageEntry}
use Rattle.tlb.specs.declared.entries.Entry.{Entry}
use Rattle.tlb.specs.declared.table.Tlb.{Tlb}
use Rattle.tlb.specs.Entries.{vpn2_of}
use Rattle.tlb.specs.Table.{entry_at}
use Rattle.tlb.specs.Moves.{canonical_of}

-- a frame number of 20 bits, an attribute of 3
pub record SoundHalf (p : PageEntry) : Type 0 where
  pub pfn : p.pfn < 2 ^ 20
  pub c : p.c < 2 ^ 3

-- a canonical mask; VPN2 within bits 39..13 and clear under the mask; an ASID of 8 bits, a region of 2
pub record Sound (e : Entry) : Type 0 where
  pub mask : canonical_of e.page_mask ≡ e.page_mask
  pub vpn2 : vpn2_of e.page_mask e.vpn2 ≡ e.vpn2
  pub asid : e.asid < 2 ^ 8
  pub region : e.region < 2 ^ 2
  pub lo0 : SoundHalf e.lo0
  pub lo1 : SoundHalf e.lo1

-- two slots of the micro-TLB up to 32, the next slot up to 1
pub record SoundMicro (slots : List ℕ) (lru : ℕ) : Type 0 where
  pub two : length slots ≡ 2
  pub slot : (k : ℕ) → k < 2 → get_or slots k 0 ≤ 32
  pub next : lru ≤ 1

pub record SoundTable (t : Tlb) : Type 0 where
  pub long : length t.entries ≡ 32
  pub each : (i : ℕ) → i < 32 → Sound (entry_at t i)
  pub micro : SoundMicro t.itlb t.itlb_lru
