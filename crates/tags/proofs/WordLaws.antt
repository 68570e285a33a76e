-- Tag words: each field reads back from a word that was made of them, and one comparison tells a hit.
use mathlib.Core.Path.{◌≡◌, refl, ap, ap₂, ◌∙◌}
use mathlib.Core.Bool.{Bool, true, false, ◌&&◌, cond}
use Prim.Native.Nat.{ℕ, ◌+◌, ◌*◌, ◌%◌, ◌^◌, ◌<◌, ◌≤◌}
use native.Mathlib.Omega.{arith}
use lib.Dec.{eqb}
use borrow.Author.Tests.{eq-eqb, ne_eqb, eqb-true, eqb-false}
use Rattle.bits.specs.Field.{field_of, bit}
use Rattle.bits.proofs.FieldLaws.{field_lt, bit_undone}
use Rattle.tags.specs.Words.{tag_of, word_tag, is_valid, is_dirty, word_of, hit_of, flushed_word, tag_lo_of, stored_of}

pub bit_le : (b : Bool) → bit b ≤ 1
bit_le true = omega arith
bit_le false = omega arith

module _ (t : ℕ) (v d : Bool) (h : t < 2 ^ 20) where
  pub tag_back : word_tag (word_of t v d) ≡ t
  tag_back = omega (arith, bit_le v, bit_le d)

  pub valid_back : is_valid (word_of t v d) ≡ v
  valid_back =
      let one : field_of (word_of t v d) 20 20 ≡ bit v = omega (arith, bit_le v, bit_le d) in
      ap (λ (f : ℕ). eqb f 1) one ∙ bit_undone v

  pub dirty_back : is_dirty (word_of t v d) ≡ d
  dirty_back =
      let one : field_of (word_of t v d) 21 21 ≡ bit d = omega (arith, bit_le v, bit_le d) in
      ap (λ (f : ℕ). eqb f 1) one ∙ bit_undone d

-- a valid word with the address's tag hits
pub hit_back : (a : ℕ) (d : Bool) → a < 2 ^ 32 → hit_of (word_of (tag_of a) true d) a ≡ true
unfolding hit_of
hit_back a d h =
    let small : tag_of a < 2 ^ 20 = omega arith in
    ap₂ ◌&&◌ (valid_back (tag_of a) true d small) (eq-eqb (word_tag (word_of (tag_of a) true d)) (tag_of a) (tag_back (tag_of a) true d small))

-- a word hits where, below the dirty flag, it is the word of a clean line that the address has taken
module _ (w a : ℕ) (h : a < 2 ^ 32) where
  abbrev own : ℕ
  own = word_of (tag_of a) true false

  pub hit_at_once : eqb (w % 2 ^ 21) own ≡ hit_of w a
  unfolding hit_of
  hit_at_once = go (eqb (field_of w 20 20) 1) refl (eqb (word_tag w) (tag_of a)) refl
    where
      go : (v : Bool) → eqb (field_of w 20 20) 1 ≡ v → (t : Bool) → eqb (word_tag w) (tag_of a) ≡ t → eqb (w % 2 ^ 21) own ≡ (v && t)
      go true v true t = eq-eqb (w % 2 ^ 21) own (omega (arith, eqb-true))
      go true v false t = ne_eqb (w % 2 ^ 21) own (λ e. eqb-false (word_tag w) (tag_of a) t (omega arith))
      go false v t u = ne_eqb (w % 2 ^ 21) own (λ e. eqb-false (field_of w 20 20) 1 v (omega arith))

-- a TagLo that is stored loads back its tag, and the state of a valid line or 0
pub tag_lo_back : (state t : ℕ) → tag_lo_of state (stored_of state t) ≡ field_of t 27 8 * 2 ^ 8 + cond (eqb (field_of t 7 6) state) state 0 * 2 ^ 6
unfolding tag_lo_of stored_of
tag_lo_back state t =
    let v : Bool = eqb (field_of t 7 6) state in
    ap₂ (λ (x : ℕ) (b : Bool). x * 2 ^ 8 + cond b state 0 * 2 ^ 6)
    (tag_back (field_of t 27 8) v false (field_lt t 27 8))
    (valid_back (field_of t 27 8) v false (field_lt t 27 8))

-- no word that is written has a bit from 22 up
pub word_low : (t : ℕ) (v d : Bool) → t < 2 ^ 20 → word_of t v d < 2 ^ 22
word_low t v d h = omega (arith, bit_le v, bit_le d)

pub flushed_low : (w : ℕ) (invalidate clean : Bool) → w < 2 ^ 22 → flushed_word w invalidate clean < 2 ^ 22
flushed_low w true clean h = word_low (word_tag w) false false (field_lt w 19 0)
flushed_low w false true h = word_low (word_tag w) (is_valid w) false (field_lt w 19 0)
flushed_low w false false h = h

pub stored_low : (state t : ℕ) → stored_of state t < 2 ^ 22
unfolding stored_of
stored_low state t = word_low (field_of t 27 8) (eqb (field_of t 7 6) state) false (field_lt t 27 8)
