-- Laws of fields, over the width and the position.
use Rattle.std.proofs.Common.{◌≡◌, ℕ, zero, suc, ◌+◌, ◌-◌, ◌*◌, ◌/◌, ◌%◌, ◌^◌, ◌<◌, ◌≤◌, Bool, true, false, eqb, sym, refl, ap, ◌∙◌, ap₂, lt_of_lt_of_le, lt_of_le_of_lt, add_assoc, mod-lt, mod-eq_of_lt, mul_assoc, add-mul, one-mul, div-le_self, div-one, arith, pow_pos, pow-add, shl_lt, shl_exact, shr-shr, shr_lt, le-leb}
use native.Mathlib.Nat.{mod-one, zero-mod, div-eq_of_lt, pow-le-pow_right}
use native.Mathlib.Decide.{dec_le}
use lib.Arith.{digits_lt}
use lib.Pow.{split, high, low, mod-pow-add, field, mod-mod-pow}
use lib.Bits.{bit_or, or_shifted}
use Rattle.bits.specs.Field.{field_of, with_field_of, bit}

pow_le : (i j : ℕ) → i ≤ j → 2 ^ i ≤ 2 ^ j
pow_le i j h = pow-le-pow_right (omega arith) h

-- what `1 << k` computes
pub unit : (k : ℕ) → k < 64 → (1 * 2 ^ k) % 2 ^ 64 ≡ 2 ^ k
unit k h = shl_exact {a = 1} 1 k 64 (omega arith) (omega arith) ∙ one-mul (2 ^ k)

-- a field is below 2 to its width
pub field_lt : (x hi lo : ℕ) → field_of x hi lo < 2 ^ (hi + 1 - lo)
field_lt x hi lo = mod-lt (x / 2 ^ lo) (pow_pos (hi + 1 - lo))

-- no bit lies at hi..lo
pub field_none : (x hi lo : ℕ) → hi < lo → field_of x hi lo ≡ 0
field_none x hi lo h =
    let e : hi + 1 - lo ≡ 0 = omega arith in
    rw e (mod-one (x / 2 ^ lo))

-- a word has no bit from 64 up
pub field_past : (x hi lo : ℕ) → x < 2 ^ 64 → 63 < lo → field_of x hi lo ≡ 0
field_past x hi lo hx h =
    ap (λ (y : ℕ). y % 2 ^ (hi + 1 - lo)) (div-eq_of_lt (lt_of_lt_of_le hx (pow_le 64 lo h)))
    ∙ zero-mod (2 ^ (hi + 1 - lo))

-- a field as wide as a word is all that stands from lo up
pub field_all : (x hi lo : ℕ) → x < 2 ^ 64 → lo ≤ hi → 62 < hi - lo → field_of x hi lo ≡ x / 2 ^ lo
field_all x hi lo hx h w =
    mod-eq_of_lt (lt_of_lt_of_le (lt_of_le_of_lt (div-le_self x (2 ^ lo)) hx) (pow_le 64 (hi + 1 - lo) (omega arith)))

-- a field by `>>` and the remainder by `1 <<` its width
pub field_part : (x hi lo : ℕ) → lo ≤ hi → hi - lo ≤ 62 → x / 2 ^ lo % ((1 * 2 ^ (hi - lo + 1)) % 2 ^ 64) ≡ field_of x hi lo
field_part x hi lo h w =
    let e : hi - lo + 1 ≡ hi + 1 - lo = omega arith in
    ap (λ (m : ℕ). x / 2 ^ lo % m) (unit (hi - lo + 1) (omega arith) ∙ ap (λ (k : ℕ). 2 ^ k) e)

-- the low bits of v, as many as lie at hi..lo
pub field_low : (v hi lo : ℕ) → lo ≤ hi → field_of v (hi - lo) 0 ≡ v % 2 ^ (hi + 1 - lo)
field_low v hi lo h =
    let e : hi - lo + 1 - 0 ≡ hi + 1 - lo = omega arith in
    ap₂ (λ (y k : ℕ). y % 2 ^ k) (div-one v) e

-- a word around one of its fields
module _ (x hi lo : ℕ) (le : lo ≤ hi) where
  width : hi + 1 - lo + lo ≡ hi + 1
  width = omega arith

  -- below the bits above hi
  pub rest : x % 2 ^ (hi + 1) ≡ field_of x hi lo * 2 ^ lo + x % 2 ^ lo
  rest = ap (λ (k : ℕ). x % 2 ^ k) (sym width) ∙ mod-pow-add x (hi + 1 - lo) lo

  pub around : x ≡ x / 2 ^ (hi + 1) * 2 ^ (hi + 1) + field_of x hi lo * 2 ^ lo + x % 2 ^ lo
  around =
      sym (split x (hi + 1))
      ∙ ap (λ (y : ℕ). x / 2 ^ (hi + 1) * 2 ^ (hi + 1) + y) rest
      ∙ sym (add_assoc (x / 2 ^ (hi + 1) * 2 ^ (hi + 1)) (field_of x hi lo * 2 ^ lo) (x % 2 ^ lo))

  -- what replaces the field and what stands below stay below bit hi + 1
  below : (w : ℕ) → w < 2 ^ (hi + 1 - lo) → w * 2 ^ lo + x % 2 ^ lo < 2 ^ (hi + 1)
  below w h =
      lt_of_lt_of_le (digits_lt h (mod-lt x (pow_pos lo)))
      (omega (arith, sym (pow-add 2 (hi + 1 - lo) lo) ∙ ap (λ (k : ℕ). 2 ^ k) width))

  abbrev pub new : ℕ → ℕ
  new v = v % 2 ^ (hi + 1 - lo) * 2 ^ lo

  pub new_lt : (v : ℕ) → new v + x % 2 ^ lo < 2 ^ (hi + 1)
  new_lt v = below (v % 2 ^ (hi + 1 - lo)) (mod-lt v (pow_pos (hi + 1 - lo)))

  -- the field can be taken away
  pub old_le : field_of x hi lo * 2 ^ lo ≤ x
  old_le = omega (arith, around)

  -- and another put in its place
  pub replaced : (v : ℕ) → x - field_of x hi lo * 2 ^ lo + new v ≡ x / 2 ^ (hi + 1) * 2 ^ (hi + 1) + new v + x % 2 ^ lo
  replaced v = omega (arith, around)

  module _ (top : hi ≤ 63) (fits : x < 2 ^ 64) where
    -- which still is a word
    pub replaced_lt : (v : ℕ) → x / 2 ^ (hi + 1) * 2 ^ (hi + 1) + new v + x % 2 ^ lo < 2 ^ 64
    replaced_lt v =
        let up : 64 - (hi + 1) + (hi + 1) ≡ 64 = omega arith in
        let word : 2 ^ (64 - (hi + 1)) * 2 ^ (hi + 1) ≡ 2 ^ 64 = sym (pow-add 2 (64 - (hi + 1)) (hi + 1)) ∙ ap (λ (k : ℕ). 2 ^ k) up in
        let q : x / 2 ^ (hi + 1) < 2 ^ (64 - (hi + 1)) = shr_lt (64 - (hi + 1)) (hi + 1) (rw up fits) in
        omega (arith, word, digits_lt q (new_lt v))

-- a word with a field replaced
module _ (x hi lo v : ℕ) (le : lo ≤ hi) (top : hi ≤ 63) where
  pub made : with_field_of x hi lo v ≡ x / 2 ^ (hi + 1) * 2 ^ (hi + 1) + (new x hi lo le v + x % 2 ^ lo)
  unfolding with_field_of
  made = rw (le-leb lo hi le, le-leb hi 63 top) (add_assoc (x / 2 ^ (hi + 1) * 2 ^ (hi + 1)) (new x hi lo le v) (x % 2 ^ lo))

  -- is a word
  pub with_lt : x < 2 ^ 64 → with_field_of x hi lo v < 2 ^ 64
  with_lt fits = omega (arith, made, replaced_lt x hi lo le top fits v)

  -- keeps the bits above the field
  pub with_above : with_field_of x hi lo v / 2 ^ (hi + 1) ≡ x / 2 ^ (hi + 1)
  with_above = ap (λ (y : ℕ). y / 2 ^ (hi + 1)) made ∙ high (x / 2 ^ (hi + 1)) (hi + 1) (new_lt x hi lo le v)

  -- up to the field's top it is the new field and the bits below
  with_top : with_field_of x hi lo v % 2 ^ (hi + 1) ≡ new x hi lo le v + x % 2 ^ lo
  with_top = ap (λ (y : ℕ). y % 2 ^ (hi + 1)) made ∙ low (x / 2 ^ (hi + 1)) (hi + 1) (new_lt x hi lo le v)

  -- keeps the bits below the field
  pub with_below : with_field_of x hi lo v % 2 ^ lo ≡ x % 2 ^ lo
  with_below =
      sym (mod-mod-pow (with_field_of x hi lo v) (hi + 1 - lo) lo)
      ∙ ap (λ (k : ℕ). with_field_of x hi lo v % 2 ^ k % 2 ^ lo) (width x hi lo le)
      ∙ ap (λ (y : ℕ). y % 2 ^ lo) with_top
      ∙ low (v % 2 ^ (hi + 1 - lo)) lo (mod-lt x (pow_pos lo))

  -- and holds the low bits of v
  pub field_with : field_of (with_field_of x hi lo v) hi lo ≡ v % 2 ^ (hi + 1 - lo)
  field_with =
      sym (field (with_field_of x hi lo v) (hi + 1 - lo) lo)
      ∙ ap (λ (k : ℕ). with_field_of x hi lo v % 2 ^ k / 2 ^ lo) (width x hi lo le)
      ∙ ap (λ (y : ℕ). y / 2 ^ lo) with_top
      ∙ high (v % 2 ^ (hi + 1 - lo)) lo (mod-lt x (pow_pos lo))

  -- a field that lies higher is kept
  pub field_higher : (hi' lo' : ℕ) → hi < lo' → field_of (with_field_of x hi lo v) hi' lo' ≡ field_of x hi' lo'
  field_higher hi' lo' h =
      let up : hi + 1 + (lo' - (hi + 1)) ≡ lo' = omega arith in
      ap (λ (y : ℕ). y % 2 ^ (hi' + 1 - lo'))
      (ap (λ (k : ℕ). with_field_of x hi lo v / 2 ^ k) (sym up)
      ∙ sym (shr-shr (with_field_of x hi lo v) (hi + 1) (lo' - (hi + 1)))
      ∙ ap (λ (y : ℕ). y / 2 ^ (lo' - (hi + 1))) with_above
      ∙ shr-shr x (hi + 1) (lo' - (hi + 1))
      ∙ ap (λ (k : ℕ). x / 2 ^ k) up)

-- of two values put at the same place the later stands
pub with_again : (x hi lo v w : ℕ) → lo ≤ hi → hi ≤ 63 → with_field_of (with_field_of x hi lo v) hi lo w ≡ with_field_of x hi lo w
with_again x hi lo v w le top =
    made (with_field_of x hi lo v) hi lo w le top
    ∙ ap₂ (λ (a b : ℕ). a * 2 ^ (hi + 1) + (w % 2 ^ (hi + 1 - lo) * 2 ^ lo + b))
    (with_above x hi lo v le top)
    (with_below x hi lo v le top)
    ∙ sym (made x hi lo w le top)

-- and a field put back where it was changes nothing
pub with_own : (x hi lo : ℕ) → lo ≤ hi → hi ≤ 63 → with_field_of x hi lo (field_of x hi lo) ≡ x
with_own x hi lo le top =
    made x hi lo (field_of x hi lo) le top
    ∙ ap (λ (f : ℕ). x / 2 ^ (hi + 1) * 2 ^ (hi + 1) + (f * 2 ^ lo + x % 2 ^ lo)) (mod-eq_of_lt (field_lt x hi lo))
    ∙ sym (add_assoc (x / 2 ^ (hi + 1) * 2 ^ (hi + 1)) (field_of x hi lo * 2 ^ lo) (x % 2 ^ lo))
    ∙ sym (around x hi lo le)

-- a field below bit lo depends on the bits below lo alone
pub low_field : (y hi' lo' lo : ℕ) → lo' ≤ hi' → hi' < lo → field_of (y % 2 ^ lo) hi' lo' ≡ field_of y hi' lo'
low_field y hi' lo' lo le h =
    let w : hi' + 1 - lo' + lo' ≡ hi' + 1 = omega arith in
    let up : lo - (hi' + 1) + (hi' + 1) ≡ lo = omega arith in
    sym (field (y % 2 ^ lo) (hi' + 1 - lo') lo')
    ∙ ap (λ (k : ℕ). y % 2 ^ lo % 2 ^ k / 2 ^ lo') w
    ∙ ap (λ (k : ℕ). y % 2 ^ k % 2 ^ (hi' + 1) / 2 ^ lo') (sym up)
    ∙ ap (λ (z : ℕ). z / 2 ^ lo') (mod-mod-pow y (lo - (hi' + 1)) (hi' + 1))
    ∙ ap (λ (k : ℕ). y % 2 ^ k / 2 ^ lo') (sym w)
    ∙ field y (hi' + 1 - lo') lo'

-- a field that lies lower is kept
pub field_lower : (x hi lo v : ℕ) → lo ≤ hi → hi ≤ 63 → (hi' lo' : ℕ) → lo' ≤ hi' → hi' < lo
    → field_of (with_field_of x hi lo v) hi' lo' ≡ field_of x hi' lo'
field_lower x hi lo v le top hi' lo' le' h =
    sym (low_field (with_field_of x hi lo v) hi' lo' lo le' h)
    ∙ ap (λ (y : ℕ). field_of y hi' lo') (with_below x hi lo v le top)
    ∙ low_field x hi' lo' lo le' h

-- a bit is kept where another one is replaced
pub bit_apart : (x k v b : ℕ) → k ≤ 63 → (b ≡ k → ⊥) → field_of (with_field_of x k k v) b b ≡ field_of x b b
bit_apart x k v b top apart = go (dec_le b k)
  where
    go : Dec (b ≤ k) → field_of (with_field_of x k k v) b b ≡ field_of x b b
    go (yes l) = field_lower x k k v (omega arith) top b b (omega arith) (omega arith)
    go (no l) = field_higher x k k v (omega arith) top b b (omega arith)

-- a field of one bit is 0 or 1
pub bit_lt : (x b : ℕ) → field_of x b b < 2
bit_lt x b =
    let e : b + 1 - b ≡ 1 = omega arith in
    rw e (mod-lt (x / 2 ^ b) (omega arith))

small_tested : (n : ℕ) → n < 2 → bit (eqb n 1) ≡ n
small_tested zero h = refl
small_tested (suc zero) h = refl
small_tested (suc (suc n)) h = omega arith

-- the flag that tests a bit is that bit
pub bit_tested : (x b : ℕ) → bit (eqb (field_of x b b) 1) ≡ field_of x b b
bit_tested x b = small_tested (field_of x b b) (bit_lt x b)

-- and a flag is what its bit tests as
pub bit_undone : (b : Bool) → eqb (bit b) 1 ≡ b
bit_undone true = refl
bit_undone false = refl

-- a flag as a number
pub a_bit : (b : Bool) → bit b < 2
a_bit true = omega arith
a_bit false = omega arith

-- two numbers, each at its place, the upper from j places above the lower: or joins them
pub or_places : (a b j k : ℕ) → b < 2 ^ j → bit_or (a * 2 ^ (j + k)) (b * 2 ^ k) ≡ (a * 2 ^ j + b) * 2 ^ k
or_places a b j k h =
    or_shifted a (j + k) (b * 2 ^ k) (shl_lt j k h)
    ∙ ap (λ (p : ℕ). a * p + b * 2 ^ k) (pow-add 2 j k)
    ∙ ap (λ (x : ℕ). x + b * 2 ^ k) (sym (mul_assoc a (2 ^ j) (2 ^ k)))
    ∙ sym (add-mul (a * 2 ^ j) b (2 ^ k))

-- two fields that meet, each at its place, are joined to one
pub fields_join : (x hi mid lo : ℕ) → lo ≤ mid → mid ≤ hi
    → bit_or (field_of x hi (mid + 1) * 2 ^ (mid + 1)) (field_of x mid lo * 2 ^ lo) ≡ field_of x hi lo * 2 ^ lo
fields_join x hi mid lo h₁ h₂ =
    let j : ℕ = mid + 1 - lo in
    let up : j + lo ≡ mid + 1 = omega arith in
    let up' : lo + j ≡ mid + 1 = omega arith in
    let all : hi + 1 - (mid + 1) + j ≡ hi + 1 - lo = omega arith in
    ap (λ (k : ℕ). bit_or (field_of x hi (mid + 1) * 2 ^ k) (field_of x mid lo * 2 ^ lo)) (sym up)
    ∙ or_places (field_of x hi (mid + 1)) (field_of x mid lo) j lo (field_lt x mid lo)
    ∙ ap (λ (y : ℕ). (y % 2 ^ (hi + 1 - (mid + 1)) * 2 ^ j + x / 2 ^ lo % 2 ^ j) * 2 ^ lo)
    (ap (λ (k : ℕ). x / 2 ^ k) (sym up') ∙ sym (shr-shr x lo j))
    ∙ ap (λ (y : ℕ). y * 2 ^ lo) (sym (mod-pow-add (x / 2 ^ lo) (hi + 1 - (mid + 1)) j) ∙ ap (λ (k : ℕ). x / 2 ^ lo % 2 ^ k) all)
