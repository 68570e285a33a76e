-- An entry that is written and read again gives back the written registers, each with the bits that an entry keeps of it.
use mathlib.Core.Path.{◌≡◌, ap, sym, ◌∙◌}
use mathlib.Core.Bool.{Bool, true, false}
use Prim.Native.Nat.{ℕ, ◌+◌, ◌*◌, ◌%◌, ◌^◌}
use native.Mathlib.Omega.{arith}
use lib.Bits.{or_shifted}
use lib.ListN.{length}
use lib.Seq.{get_or-set_same}
use Rattle.bits.specs.Field.{field_of, bit}
use Rattle.bits.proofs.FieldLaws.{bit_tested, a_bit, fields_join}
use Rattle.cop0.specs.declared.registers.Cop0.{Cop0}
use Rattle.cop0.specs.Registers.{EntryLo0, EntryLo1, PageMask, EntryHi}
use Rattle.cop0.specs.File.{read_of}
use Rattle.tlb.specs.declared.entries.Entry.{Entry}
use Rattle.tlb.specs.declared.table.Tlb.{Tlb}
use Rattle.tlb.specs.Entries.{vpn2_of}
use Rattle.tlb.specs.Table.{with_vpn2, entry_at}
use Rattle.tlb.specs.Moves.{canonical_of, page_of, global_of, written_mask, entry_of, written_of, lo_of, read_entry_of}
use Rattle.tlb.specs.Sound.{SoundHalf, Sound}
use Rattle.tlb.specs.Words.{lo_word}
use Rattle.tlb.proofs.WordLaws.{lo_joined}
use Rattle.tlb.proofs.Sound.{sound_vpn2, entry_sound}
use Rattle.tlb.proofs.ReadBack.{d₄, mask_read, hi_read, lo0_read, lo1_read}

-- PFN, C, D and V meet, and or joins them to the field 25..1; G is the bit below
lo_fields : (x : ℕ) (g : Bool) (s : SoundHalf (page_of x)) → lo_word (page_of x) g ≡ field_of x 25 1 * 2 + bit g
lo_fields x g s = sym (lo_joined (page_of x) g s) ∙ joined
  where
    joined : lo_of (page_of x) g ≡ field_of x 25 1 * 2 + bit g
    joined =
        rw (bit_tested x 2, bit_tested x 1)
        (rw (fields_join x 25 5 3 (omega arith) (omega arith), fields_join x 25 2 2 (omega arith) (omega arith))
        (rw (fields_join x 25 1 1 (omega arith) (omega arith)) (or_shifted (field_of x 25 1) 1 (bit g) (a_bit g))))

-- EntryLo0 is the even half's, EntryLo1 the odd one's
abbrev pub entry_lo : Bool → ℕ
entry_lo false = EntryLo0
entry_lo true = EntryLo1

-- r: entry i of a table of 32, written from the registers c, is read into registers that were d
module _ (t : Tlb) (i : ℕ) (c d : Cop0) (entries : length t.entries ≡ 32) (file : length d.regs ≡ 32) where
  abbrev pub r : Cop0
  r = read_entry_of (written_of t i c) i d

  -- the entry that is read is the one that was written
  same_entry : entry_at (written_of t i c) (i % 32) ≡ entry_of c
  unfolding written_of
  same_entry = get_or-set_same t.entries (i % 32) (entry_of c) (with_vpn2 0) (omega arith)

  abbrev e : Entry
  e = entry_of c

  abbrev s : Sound e
  s = entry_sound c

  r_is : r ≡ d₄ e s d file
  unfolding read_entry_of
  r_is = rw same_entry

  -- the canonical mask
  pub mask_back : read_of r PageMask ≡ canonical_of (read_of c PageMask)
  unfolding entry_of
  mask_back = ap (λ (x : Cop0). read_of x PageMask) r_is ∙ mask_read e s d file

  -- R, VPN2 outside the mask, ASID
  pub hi_back : read_of r EntryHi
      ≡ field_of (read_of c EntryHi) 63 62 * 2 ^ 62 + vpn2_of (written_mask c) (read_of c EntryHi) + field_of (read_of c EntryHi) 7 0
  unfolding entry_of
  hi_back =
      let two_bits : e.region % 4 ≡ e.region = omega (arith, s.region) in
      ap (λ (x : Cop0). read_of x EntryHi) r_is ∙ hi_read e s d file ∙ rw (two_bits, sound_vpn2 e s)

  -- G of both halves
  abbrev pub g : Bool
  g = global_of (read_of c EntryLo0) (read_of c EntryLo1)

  -- PFN, C, D and V (bits 25..1), and that G; of the even half, or of the odd one
  pub lo_back : (odd : Bool) → read_of r (entry_lo odd) ≡ field_of (read_of c (entry_lo odd)) 25 1 * 2 + bit g
  unfolding entry_of
  lo_back false =
      ap (λ (x : Cop0). read_of x EntryLo0) r_is ∙ lo0_read e s d file ∙ lo_fields (read_of c EntryLo0) g s.lo0
  lo_back true =
      ap (λ (x : Cop0). read_of x EntryLo1) r_is ∙ lo1_read e s d file ∙ lo_fields (read_of c EntryLo1) g s.lo1
