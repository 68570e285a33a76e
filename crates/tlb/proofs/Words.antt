-- The four words of a sound entry: what a read puts into the registers, and read back the entry itself.
use mathlib.Core.Path.{◌≡◌, ap, ◌∙◌, sym}
use Prim.Native.Nat.{ℕ, ◌*◌, ◌%◌, ◌^◌, ◌<◌}
use native.Mathlib.Omega.{arith}
use lib.Bits.{bit_or}
use Rattle.bits.specs.Field.{field_of}
use Rattle.bits.specs.Mask.{under, cleared}
use Rattle.bits.proofs.FieldLaws.{field_lt}
use Rattle.cop0.specs.Registers.{EntryHi, arch_mask}
use Rattle.tlb.specs.declared.entries.Entry.{Entry}
use Rattle.tlb.specs.Entries.{vpn2_of}
use Rattle.tlb.specs.Moves.{hi_of}
use Rattle.tlb.specs.Sound.{Sound}
use Rattle.tlb.specs.Words.{entry_of_words, hi_word, lo_word}
use Rattle.tlb.proofs.WordLaws.{hi_joined, hi_kept, hi_region, hi_vpn2, hi_asid, lo_g, lo_page}
use Rattle.tlb.proofs.Sound.{sound_mask, sound_vpn2}

module _ (e : Entry) (s : Sound e) where
  abbrev w : ℕ
  w = field_of e.vpn2 39 13

  w_lt : w < 2 ^ 27
  w_lt = field_lt e.vpn2 39 13

  pub word_is : hi_of e ≡ hi_word e
  word_is =
      ap (λ (v : ℕ). bit_or (bit_or (e.region % 4 * 2 ^ 62) v) e.asid) (sym (sound_vpn2 e s))
      ∙ hi_joined e.region w e.asid s.region w_lt s.asid

  pub word_kept : under (arch_mask EntryHi) (hi_word e) ≡ hi_word e
  word_kept = hi_kept e.region w e.asid s.region w_lt s.asid

  pub word_region : field_of (hi_word e) 63 62 ≡ e.region
  word_region = hi_region e.region w e.asid s.region w_lt s.asid

  pub word_vpn2 : field_of (hi_word e) 39 13 * 2 ^ 13 ≡ e.vpn2
  word_vpn2 = rw (hi_vpn2 e.region w e.asid s.region w_lt s.asid) (sound_vpn2 e s)

  pub word_asid : field_of (hi_word e) 7 0 ≡ e.asid
  word_asid = hi_asid e.region w e.asid s.region w_lt s.asid

  -- the mask clears nothing more of it
  pub vpn2_back : vpn2_of e.page_mask (hi_word e) ≡ e.vpn2
  vpn2_back = ap (cleared e.page_mask) (word_vpn2 ∙ sym (sound_vpn2 e s)) ∙ s.vpn2

  pub words_back : entry_of_words e.page_mask (hi_word e) (lo_word e.lo0 e.global) (lo_word e.lo1 e.global) ≡ e
  words_back =
      let m : e.page_mask % 2 ^ 32 ≡ e.page_mask = omega (arith, sound_mask e s) in
      rw (
        m,
        word_region,
        vpn2_back,
        word_asid,
        lo_g e.lo0 e.global s.lo0,
        lo_page e.lo0 e.global s.lo0,
        lo_page e.lo1 e.global s.lo1,
      )
