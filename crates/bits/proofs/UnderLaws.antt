-- A word whose bits all lie under a mask, with a field replaced that lies under it too.
use Rattle.std.proofs.Common.{◌≡◌, ℕ, ◌+◌, ◌-◌, ◌*◌, ◌/◌, ◌%◌, ◌^◌, ◌≤◌, sym, ap, ◌∙◌, ap₂, mod-lt, pow_pos}
use lib.Pow.{split}
use lib.Bits.{bit_and, and_shr, and_mod}
use Rattle.bits.specs.Field.{field_of, with_field_of}
use Rattle.bits.proofs.FieldLaws.{rest, made, new_lt}
use Rattle.bits.proofs.MaskLaws.{under_ones, under_block}

-- the mask m has ones at hi..lo
module _ (m x hi lo v : ℕ) (le : lo ≤ hi) (top : hi ≤ 63) (ones : field_of m hi lo ≡ 2 ^ (hi + 1 - lo) - 1) (under : bit_and x m ≡ x) where
  above : bit_and (x / 2 ^ (hi + 1)) (m / 2 ^ (hi + 1)) ≡ x / 2 ^ (hi + 1)
  above = sym (and_shr x m (hi + 1)) ∙ ap (λ (y : ℕ). y / 2 ^ (hi + 1)) under

  below : bit_and (x % 2 ^ lo) (m % 2 ^ lo) ≡ x % 2 ^ lo
  below = sym (and_mod x m lo) ∙ ap (λ (y : ℕ). y % 2 ^ lo) under

  -- the new field and the bits below it
  within : bit_and (v % 2 ^ (hi + 1 - lo) * 2 ^ lo + x % 2 ^ lo) (m % 2 ^ (hi + 1)) ≡ v % 2 ^ (hi + 1 - lo) * 2 ^ lo + x % 2 ^ lo
  within =
      ap (bit_and (v % 2 ^ (hi + 1 - lo) * 2 ^ lo + x % 2 ^ lo)) (rest m hi lo le ∙ ap (λ (f : ℕ). f * 2 ^ lo + m % 2 ^ lo) ones)
      ∙ under_block lo (v % 2 ^ (hi + 1 - lo)) (x % 2 ^ lo) (2 ^ (hi + 1 - lo) - 1) (m % 2 ^ lo)
      (mod-lt x (pow_pos lo)) (mod-lt m (pow_pos lo))
      (under_ones (hi + 1 - lo) (v % 2 ^ (hi + 1 - lo)) (mod-lt v (pow_pos (hi + 1 - lo)))) below

  -- is still kept by the mask
  pub under_with : bit_and (with_field_of x hi lo v) m ≡ with_field_of x hi lo v
  under_with =
      ap₂ bit_and (made x hi lo v le top) (sym (split m (hi + 1)))
      ∙ under_block (hi + 1) (x / 2 ^ (hi + 1)) (v % 2 ^ (hi + 1 - lo) * 2 ^ lo + x % 2 ^ lo) (m / 2 ^ (hi + 1)) (m % 2 ^ (hi + 1))
      (new_lt x hi lo le v) (mod-lt m (pow_pos (hi + 1))) above within
      ∙ sym (made x hi lo v le top)
