-- The registers' words of an entry: what a mask leaves of VPN2, and the fields of EntryHi and EntryLo at their places.
use mathlib.Core.Path.{◌≡◌, ◌∙◌}
use mathlib.Core.Bool.{Bool}
use Prim.Native.Nat.{ℕ, ◌+◌, ◌-◌, ◌*◌, ◌/◌, ◌%◌, ◌^◌, ◌<◌}
use native.Mathlib.Nat.{add_assoc, lt_of_le_of_lt}
use native.Mathlib.Omega.{arith}
use lib.Bits.{bit_or, or_shifted, and_high}
use lib.Dec.{eqb}
use Rattle.bits.specs.Field.{field_of, bit}
use Rattle.bits.specs.Mask.{under, merged_bits}
use Rattle.bits.proofs.FieldLaws.{field_lt, a_bit, bit_undone, or_places}
use Rattle.bits.proofs.MaskLaws.{merged_shift, cleared_le, under_ones, under_block}
use Rattle.cop0.specs.Registers.{PageMask, EntryHi, arch_mask}
use Rattle.tlb.specs.declared.entries.PageEntry.{PageEntry}
use Rattle.tlb.specs.Entries.{vpn2_of}
use Rattle.tlb.specs.Moves.{pairs, canonical_of, page_of, lo_of}
use Rattle.tlb.specs.Sound.{SoundHalf}
use Rattle.tlb.specs.Words.{lo_word}
use Rattle.tlb.proofs.Sizes.{pairs_small}

-- PageMask has the bits of a canonical mask
pub mask_kept : (x : ℕ) → under (arch_mask PageMask) (canonical_of x) ≡ canonical_of x
unfolding arch_mask
mask_kept x = and_high (canonical_of x) 12 13 ∙ omega (arith, pairs_small 6 (x / 2 ^ 13) (omega arith))

-- a canonical mask leaves of VPN2 a number below 2^27, at bit 13
module _ (x v : ℕ) where
  abbrev pub left : ℕ
  left = merged_bits 51 (pairs 6 (x / 2 ^ 13)) 0 (field_of v 39 13)

  pub left_at : vpn2_of (canonical_of x) v ≡ left * 2 ^ 13
  left_at = merged_shift 13 51 (pairs 6 (x / 2 ^ 13)) 0 (field_of v 39 13)

  pub left_lt : left < 2 ^ 27
  left_lt = lt_of_le_of_lt (cleared_le 51 (pairs 6 (x / 2 ^ 13)) (field_of v 39 13)) (field_lt v 39 13)

-- R, VPN2 and ASID at their places: or adds them, EntryHi has these bits, and each is read off again
module _ (r w a : ℕ) (hr : r < 2 ^ 2) (hw : w < 2 ^ 27) (ha : a < 2 ^ 8) where
  abbrev hi : ℕ
  hi = r % 4 * 2 ^ 62 + w * 2 ^ 13 + a

  pub hi_joined : bit_or (bit_or (r % 4 * 2 ^ 62) (w * 2 ^ 13)) a ≡ hi
  hi_joined =
      rw (or_places (r % 4) w 49 13 (omega arith), or_shifted (r % 4 * 2 ^ 49 + w) 13 a (omega arith)) (omega arith)

  pub hi_kept : under (arch_mask EntryHi) hi ≡ hi
  unfolding arch_mask
  hi_kept =
      rw (add_assoc (r % 4 * 2 ^ 62) (w * 2 ^ 13) a)
      (under_block 62 (r % 4) (w * 2 ^ 13 + a) (2 ^ 2 - 1) ((2 ^ 27 - 1) * 2 ^ 13 + (2 ^ 8 - 1)) (omega arith) (omega arith)
      (under_ones 2 (r % 4) (omega arith))
      (under_block 13 w a (2 ^ 27 - 1) (2 ^ 8 - 1) (omega arith) (omega arith) (under_ones 27 w hw) (under_ones 8 a ha)))

  pub hi_region : field_of hi 63 62 ≡ r
  hi_region = omega arith

  pub hi_vpn2 : field_of hi 39 13 ≡ w
  hi_vpn2 = omega arith

  pub hi_asid : field_of hi 7 0 ≡ a
  hi_asid = omega arith

-- PFN, C, D, V and G the same, in EntryLo0 and EntryLo1
module _ (p : PageEntry) (g : Bool) (s : SoundHalf p) where
  pub lo_joined : lo_of p g ≡ lo_word p g
  lo_joined =
      rw (or_places p.pfn p.c 3 3 s.c)
      (rw (or_places (p.pfn * 2 ^ 3 + p.c) (bit p.dirty) 1 2 (a_bit p.dirty))
      (rw (or_places ((p.pfn * 2 ^ 3 + p.c) * 2 ^ 1 + bit p.dirty) (bit p.valid) 1 1 (a_bit p.valid))
      (or_shifted (((p.pfn * 2 ^ 3 + p.c) * 2 ^ 1 + bit p.dirty) * 2 ^ 1 + bit p.valid) 1 (bit g) (a_bit g)
      ∙ omega (arith, s.pfn, s.c))))

  pub lo_kept : under (2 ^ 30 - 1) (lo_word p g) ≡ lo_word p g
  lo_kept = under_ones 30 (lo_word p g) (omega (arith, s.pfn, s.c, a_bit g, a_bit p.dirty, a_bit p.valid))

  pub lo_g : eqb (field_of (lo_word p g) 0 0) 1 ≡ g
  lo_g =
      let e : field_of (lo_word p g) 0 0 ≡ bit g = omega (arith, a_bit g) in
      rw e (bit_undone g)

  pub lo_page : page_of (lo_word p g) ≡ p
  lo_page =
      let f : field_of (lo_word p g) 25 6 ≡ p.pfn = omega (arith, a_bit g, a_bit p.dirty, a_bit p.valid, s.pfn, s.c) in
      let c : field_of (lo_word p g) 5 3 ≡ p.c = omega (arith, a_bit g, a_bit p.dirty, a_bit p.valid, s.pfn, s.c) in
      let d : field_of (lo_word p g) 2 2 ≡ bit p.dirty = omega (arith, a_bit g, a_bit p.dirty, a_bit p.valid) in
      let v : field_of (lo_word p g) 1 1 ≡ bit p.valid = omega (arith, a_bit g, a_bit p.dirty, a_bit p.valid) in
      rw (f, c, d, v, bit_undone p.dirty, bit_undone p.valid)
