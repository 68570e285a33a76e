-- An entry is sound exactly where reading it into the registers and writing it back leaves it as it is.
use mathlib.Core.Path.{◌≡◌, refl, ap, subst, ◌∙◌}
use mathlib.Core.Bool.{Bool, true, false, ◌&&◌}
use Prim.Native.Nat.{ℕ, ◌%◌}
use native.Mathlib.Omega.{arith}
use lib.ListN.{length}
use Rattle.bits.specs.Mask.{under}
use Rattle.cop0.specs.declared.registers.Cop0.{Cop0}
use Rattle.cop0.specs.Registers.{EntryLo0, EntryLo1, PageMask, EntryHi, among, unused, arch_mask}
use Rattle.cop0.specs.File.{read_at, read_of, set_hardware_of}
use Rattle.cop0.proofs.Hardware.{set_file, read_past, read_back}
use Rattle.tlb.specs.declared.entries.Entry.{Entry}
use Rattle.tlb.specs.declared.table.Tlb.{Tlb}
use Rattle.tlb.specs.Table.{entry_at}
use Rattle.tlb.specs.Moves.{global_of, entry_of, lo_of, hi_of, read_entry_of}
use Rattle.tlb.specs.Sound.{Sound, SoundTable}
use Rattle.tlb.specs.Words.{hi_word, lo_word}
use Rattle.tlb.proofs.WordLaws.{mask_kept, lo_joined, lo_kept, lo_g, lo_page}
use Rattle.tlb.proofs.Sound.{entry_sound}
use Rattle.tlb.proofs.Words.{word_is, word_kept, word_region, vpn2_back, word_asid}

both : (g : Bool) → (g && g) ≡ g
both true = refl
both false = refl

-- the four registers that a sound entry is read into
module _ (e : Entry) (s : Sound e) (d : Cop0) (file : length d.regs ≡ 32) where
  abbrev pub d₁ : Cop0
  d₁ = set_hardware_of d PageMask e.page_mask

  abbrev pub d₂ : Cop0
  d₂ = set_hardware_of d₁ EntryHi (hi_of e)

  abbrev pub d₃ : Cop0
  d₃ = set_hardware_of d₂ EntryLo0 (lo_of e.lo0 e.global)

  abbrev pub d₄ : Cop0
  d₄ = set_hardware_of d₃ EntryLo1 (lo_of e.lo1 e.global)

  file₁ : length d₁.regs ≡ 32
  file₁ = set_file d PageMask _ 32 file

  file₂ : length d₂.regs ≡ 32
  file₂ = set_file d₁ EntryHi _ 32 file₁

  file₃ : length d₃.regs ≡ 32
  file₃ = set_file d₂ EntryLo0 _ 32 file₂

  pub mask_read : read_of d₄ PageMask ≡ e.page_mask
  unfolding read_at unused among
  mask_read =
      read_past PageMask (λ f. refl) EntryLo1 _ d₃ refl refl
      ∙ read_past PageMask (λ f. refl) EntryLo0 _ d₂ refl refl
      ∙ read_past PageMask (λ f. refl) EntryHi _ d₁ refl refl
      ∙ read_back PageMask (λ f. refl) (omega arith) d file _ (subst (λ (m : ℕ). under (arch_mask PageMask) m ≡ m) s.mask (mask_kept e.page_mask))

  pub hi_read : read_of d₄ EntryHi ≡ hi_word e
  unfolding read_at unused among
  hi_read =
      read_past EntryHi (λ f. refl) EntryLo1 _ d₃ refl refl
      ∙ read_past EntryHi (λ f. refl) EntryLo0 _ d₂ refl refl
      ∙ ap (λ (y : ℕ). read_of (set_hardware_of d₁ EntryHi y) EntryHi) (word_is e s)
      ∙ read_back EntryHi (λ f. refl) (omega arith) d₁ file₁ _ (word_kept e s)

  pub lo0_read : read_of d₄ EntryLo0 ≡ lo_word e.lo0 e.global
  unfolding read_at unused among arch_mask
  lo0_read =
      read_past EntryLo0 (λ f. refl) EntryLo1 _ d₃ refl refl
      ∙ ap (λ (y : ℕ). read_of (set_hardware_of d₂ EntryLo0 y) EntryLo0) (lo_joined e.lo0 e.global s.lo0)
      ∙ read_back EntryLo0 (λ f. refl) (omega arith) d₂ file₂ _ (lo_kept e.lo0 e.global s.lo0)

  pub lo1_read : read_of d₄ EntryLo1 ≡ lo_word e.lo1 e.global
  unfolding read_at unused among arch_mask
  lo1_read =
      ap (λ (y : ℕ). read_of (set_hardware_of d₃ EntryLo1 y) EntryLo1) (lo_joined e.lo1 e.global s.lo1)
      ∙ read_back EntryLo1 (λ f. refl) (omega arith) d₃ file₃ _ (lo_kept e.lo1 e.global s.lo1)

  pub back : entry_of d₄ ≡ e
  unfolding entry_of global_of
  back =
      rw (
        mask_read,
        hi_read,
        lo0_read,
        lo1_read,
        s.mask,
        vpn2_back e s,
        word_region e s,
        word_asid e s,
        lo_g e.lo0 e.global s.lo0,
        lo_g e.lo1 e.global s.lo1,
        both e.global,
        lo_page e.lo0 e.global s.lo0,
        lo_page e.lo1 e.global s.lo1,
      )

-- so that reading a sound entry and writing it back leaves it
pub read_sound : (t : Tlb) → SoundTable t → (i : ℕ) (c : Cop0) → length c.regs ≡ 32 → entry_of (read_entry_of t i c) ≡ entry_at t (i % 32)
unfolding read_entry_of
read_sound t s i c file = back (entry_at t (i % 32)) (s.each (i % 32) (omega arith)) c file

-- and an entry that reading and writing back leaves is sound: the definition leaves none out
pub unaltered_sound : (t : Tlb) (i : ℕ) (c : Cop0) → entry_of (read_entry_of t i c) ≡ entry_at t (i % 32) → Sound (entry_at t (i % 32))
unaltered_sound t i c e = subst Sound e (entry_sound (read_entry_of t i c))
