-- Two words are equal under a mask where their difference has no bit there: one exclusive or in place of two merges.
use Rattle.std.proofs.Common.{◌≡◌, ℕ, zero, suc, ◌+◌, ◌-◌, ◌*◌, ◌/◌, ◌%◌, ◌^◌, ◌<◌, min, Bool, true, false, cond, ◌&&◌, ◌||◌, eqb, List, get_or, sym, refl, ap, ◌∙◌, ap₂, lt_of_le_of_lt, mul_assoc, suc-add, pow-suc, zero-add, arith, eq-eqb, ne_eqb}
use native.Mathlib.Nat.{min-le_left}
use native.Mathlib.Decide.{ℕ_discrete}
use lib.Bits.{differ, bit_and, bit_xor, and_step, xor_step, and_mask, and_high, and_block, and_le_l, and_le_r, xor_add_and, xor_mod, xor_self, xor_comm}
use Rattle.bits.specs.Field.{field_of}
use Rattle.bits.specs.Mask.{merged_bits, cleared}
use Rattle.bits.specs.Extension.{low32_of}
use Rattle.bits.proofs.Tables.{agree}
use Rattle.bits.proofs.FieldLaws.{field_lt}
use Rattle.bits.proofs.MaskLaws.{merged_none, cleared_le}
use Rattle.tlb.specs.Entries.{matches_of}
use Rattle.rimjhodek.specs.Table.{tag_of, key_of, key_hits, entry_in, word_hits, word_in}

-- two numbers, each of a half and a last bit
two : (a b c d : ℕ) → b < 2 → d < 2 → eqb (a * 2 + b) (c * 2 + d) ≡ (eqb a c && eqb b d)
two a b c d hb hd = go (ℕ_discrete a c) (ℕ_discrete b d)
  where
    go : Dec (a ≡ c) → Dec (b ≡ d) → eqb (a * 2 + b) (c * 2 + d) ≡ (eqb a c && eqb b d)
    go (yes p) (yes q) = rw (eq-eqb a c p, eq-eqb b d q) (eq-eqb (a * 2 + b) (c * 2 + d) (omega arith))
    go (yes p) (no q) = rw (eq-eqb a c p, ne_eqb b d q) (ne_eqb (a * 2 + b) (c * 2 + d) (λ e. q (omega (arith, e, p))))
    go (no p) q = rw (ne_eqb a c p) (ne_eqb (a * 2 + b) (c * 2 + d) (λ e. p (omega (arith, e))))

-- one bit of each
abbrev by_difference : ℕ → ℕ → ℕ → ℕ → Bool
by_difference x y m t = eqb (min (min (differ x y) (1 - m)) t) 0

abbrev by_merging : ℕ → ℕ → ℕ → ℕ → Bool
by_merging x y m t = eqb (cond (eqb m 1) 0 (min x t)) (cond (eqb m 1) 0 (min y t))

one : (x y m t : ℕ) → x < 2 → y < 2 → m < 2 → t < 2 → by_difference x y m t ≡ by_merging x y m t
one x y m t hx hy hm ht =
    let k : ℕ = x + 2 * y + 4 * m + 8 * t in
    let ex : k % 2 ≡ x = omega arith in
    let k₁ : k / 2 ≡ y + 2 * m + 4 * t = omega arith in
    let k₂ : k / 4 ≡ m + 2 * t = omega arith in
    let k₃ : k / 8 ≡ t = omega arith in
    let ey : k / 2 % 2 ≡ y = rw k₁ (omega arith) in
    let em : k / 4 % 2 ≡ m = rw k₂ (omega arith) in
    let et : k / 8 % 2 ≡ t = rw k₃ (omega arith) in
    rw (ex, ey, em, et) at
    (agree 16 (λ n. by_difference (n % 2) (n / 2 % 2) (n / 4 % 2) (n / 8 % 2)) (λ n. by_merging (n % 2) (n / 2 % 2) (n / 4 % 2) (n / 8 % 2)) refl k (omega arith))

half : (a b : ℕ) → b < 2 → (a * 2 + b) / 2 ≡ a
half a b h = omega arith

last : (a b : ℕ) → b < 2 → (a * 2 + b) % 2 ≡ b
last a b h = omega arith

lesser : (a b : ℕ) → min (a % 2) (b % 2) < 2
lesser a b = lt_of_le_of_lt (min-le_left (a % 2) (b % 2)) (omega arith)

and_half : (a b : ℕ) → bit_and a b / 2 ≡ bit_and (a / 2) (b / 2)
and_half a b = ap (λ (n : ℕ). n / 2) (and_step a b) ∙ half _ _ (lesser a b)

and_last : (a b : ℕ) → bit_and a b % 2 ≡ min (a % 2) (b % 2)
and_last a b = ap (λ (n : ℕ). n % 2) (and_step a b) ∙ last _ _ (lesser a b)

differ_lt : (x y : ℕ) → x < 2 → y < 2 → differ x y < 2
differ_lt zero y hx hy = hy
differ_lt (suc zero) zero hx hy = hx
differ_lt (suc zero) (suc zero) hx hy = omega arith
differ_lt (suc zero) (suc (suc y)) hx hy = absurd (omega arith)
differ_lt (suc (suc x)) y hx hy = absurd (omega arith)

xor_half : (a b : ℕ) → bit_xor a b / 2 ≡ bit_xor (a / 2) (b / 2)
xor_half a b = ap (λ (n : ℕ). n / 2) (xor_step a b) ∙ half _ _ (differ_lt (a % 2) (b % 2) (omega arith) (omega arith))

xor_last : (a b : ℕ) → bit_xor a b % 2 ≡ differ (a % 2) (b % 2)
xor_last a b = ap (λ (n : ℕ). n % 2) (xor_step a b) ∙ last _ _ (differ_lt (a % 2) (b % 2) (omega arith) (omega arith))

kept_lt : (b : Bool) (x : ℕ) → x < 2 → cond b 0 x < 2
kept_lt true x h = omega arith
kept_lt false x h = h

pub same : (n x y m t : ℕ) → x < 2 ^ n → y < 2 ^ n → m < 2 ^ n → t < 2 ^ n
    → eqb (bit_and (bit_and (bit_xor x y) (2 ^ n - 1 - m)) t) 0 ≡ eqb (merged_bits n m 0 (bit_and x t)) (merged_bits n m 0 (bit_and y t))
unfolding merged_bits
same zero x y m t hx hy hm ht =
    let ex : x ≡ 0 = omega arith in
    let ey : y ≡ 0 = omega arith in
    rw (ex, ey)
same (suc n) x y m t hx hy hm ht =
    let p : ℕ = 2 ^ n in
    let e : 2 ^ suc n ≡ p * 2 = pow-suc 2 n in
    let nh : (p * 2 - 1 - m) / 2 ≡ p - 1 - m / 2 = omega (arith, e) in
    let nl : (p * 2 - 1 - m) % 2 ≡ 1 - m % 2 = omega (arith, e) in
    let b : Bool = eqb (m % 2) 1 in
    rw (and_step (bit_and (bit_xor x y) (2 ^ suc n - 1 - m)) t, and_half (bit_xor x y) (2 ^ suc n - 1 - m), and_last (bit_xor x y) (2 ^ suc n - 1 - m), e, nh, nl, xor_half x y, xor_last x y, and_half x t, and_last x t, and_half y t, and_last y t)
    (two _ _ 0 0 (lt_of_le_of_lt (min-le_left _ _) (lt_of_le_of_lt (min-le_left _ _) (differ_lt (x % 2) (y % 2) (omega arith) (omega arith)))) (omega arith)
    ∙ ap₂ ◌&&◌
    (same n (x / 2) (y / 2) (m / 2) (t / 2) (omega (arith, e)) (omega (arith, e)) (omega (arith, e)) (omega (arith, e)))
    (one (x % 2) (y % 2) (m % 2) (t % 2) (omega arith) (omega arith) (omega arith) (omega arith))
    ∙ sym (two _ _ _ _ (kept_lt b _ (lesser x t)) (kept_lt b _ (lesser y t))))

-- the compared bits of a word are R and VPN2 in place
abbrev compared : ℕ
compared = 0xC000_00FF_FFFF_E000

pub tag_is : (x : ℕ) → x < 2 ^ 64 → bit_and x compared ≡ tag_of x
tag_is x h =
    let q : ℕ = x / 2 ^ 62 in
    let r : ℕ = x % 2 ^ 62 in
    let e : x ≡ q * 2 ^ 62 + r = omega arith in
    let top : q % 2 ^ 2 ≡ field_of x 63 62 = omega arith in
    let low : r / 2 ^ 13 % 2 ^ 27 ≡ field_of x 39 13 = omega arith in
    ap (λ (z : ℕ). bit_and z compared) e
    ∙ and_block 62 q 3 r (2 ^ (27 + 13) - 2 ^ 13) (omega arith) (omega arith)
    ∙ rw (and_mask q 2, and_high r 27 13, top, low)

-- equal where they are compared, by the difference
pub by_tags : (m x y : ℕ) → m < 2 ^ 64 → x < 2 ^ 64 → y < 2 ^ 64
    → eqb (bit_and (bit_and (bit_xor x y) (2 ^ 64 - 1 - m)) compared) 0 ≡ eqb (cleared m (tag_of x)) (cleared m (tag_of y))
by_tags m x y hm hx hy = rw (← tag_is x hx, ← tag_is y hy) (same 64 x y m compared hx hy hm (omega arith))

-- the last byte of the difference
same_low : (a b : ℕ) → bit_xor a b ≡ 0 → a ≡ b
same_low a b e = omega (arith, e, xor_add_and a b, and_le_l a b, and_le_r a b)

pub by_asid : (x y : ℕ) → eqb (bit_xor x y % 256) 0 ≡ eqb (field_of x 7 0) (field_of y 7 0)
by_asid x y =
    let ex : x % 2 ^ 8 ≡ field_of x 7 0 = omega arith in
    let ey : y % 2 ^ 8 ≡ field_of y 7 0 = omega arith in
    rw (xor_mod x y 8, ex, ey) (go (ℕ_discrete (field_of x 7 0) (field_of y 7 0)))
  where
    go : Dec (field_of x 7 0 ≡ field_of y 7 0) → eqb (bit_xor (field_of x 7 0) (field_of y 7 0)) 0 ≡ eqb (field_of x 7 0) (field_of y 7 0)
    go (yes p) = rw (p) (eq-eqb _ _ (xor_self (field_of y 7 0)) ∙ sym (eq-eqb (field_of y 7 0) (field_of y 7 0) refl))
    go (no p) = ne_eqb _ _ (λ e. p (same_low _ _ e)) ∙ sym (ne_eqb _ _ p)

-- a mask of k bits clears nothing above them
above : (k n m a b : ℕ) → m < 2 ^ k → b < 2 ^ k → a < 2 ^ n
    → merged_bits (k + n) m 0 (a * 2 ^ k + b) ≡ a * 2 ^ k + merged_bits (k + n) m 0 b
unfolding merged_bits
above zero n m a b hm hb ha =
    let em : m ≡ 0 = omega arith in
    let eb : b ≡ 0 = omega arith in
    let e : a * 1 + 0 ≡ a = omega arith in
    rw (zero-add n, em, eb, e, merged_none n 0 a ha, merged_none n 0 0 (lt_of_le_of_lt (omega arith) ha)) (omega arith)
above (suc k) n m a b hm hb ha =
    let p = pow-suc 2 k in
    let half : (a * 2 ^ suc k + b) / 2 ≡ a * 2 ^ k + b / 2 = rw p (omega (arith, mul_assoc a (2 ^ k) 2)) in
    let last : (a * 2 ^ suc k + b) % 2 ≡ b % 2 = rw p (omega (arith, mul_assoc a (2 ^ k) 2)) in
    rw (suc-add k n, half, last, above k n (m / 2) a (b / 2) (omega (arith, p)) (omega (arith, p)) ha, p)
    (omega (arith, mul_assoc a (2 ^ k) 2))

-- two numbers, each of two parts
parts : (r s a b : ℕ) → a < 2 ^ 62 → b < 2 ^ 62 → eqb (r * 2 ^ 62 + a) (s * 2 ^ 62 + b) ≡ (eqb r s && eqb a b)
parts r s a b ha hb = go (ℕ_discrete r s) (ℕ_discrete a b)
  where
    go : Dec (r ≡ s) → Dec (a ≡ b) → eqb (r * 2 ^ 62 + a) (s * 2 ^ 62 + b) ≡ (eqb r s && eqb a b)
    go (yes p) (yes q) = rw (eq-eqb r s p, eq-eqb a b q) (eq-eqb (r * 2 ^ 62 + a) (s * 2 ^ 62 + b) (rw (p, q)))
    go (yes p) (no q) =
        rw (eq-eqb r s p, ne_eqb a b q) (ne_eqb (r * 2 ^ 62 + a) (s * 2 ^ 62 + b) (λ e. q (omega (arith, e, p))))
    go (no p) q = rw (ne_eqb r s p) (ne_eqb (r * 2 ^ 62 + a) (s * 2 ^ 62 + b) (λ e. p (omega (arith, e))))

-- an address with an ASID has the address's tag, and the ASID
key_tag : (v asid : ℕ) → asid < 2 ^ 8 → tag_of (key_of v asid) ≡ tag_of v
key_tag v asid h =
    let r : field_of (key_of v asid) 63 62 ≡ field_of v 63 62 = omega arith in
    let w : field_of (key_of v asid) 39 13 ≡ field_of v 39 13 = omega arith in
    rw (r, w)

key_asid : (v asid : ℕ) → asid < 2 ^ 8 → field_of (key_of v asid) 7 0 ≡ asid
key_asid v asid h = omega arith

-- the words of an entry match where the entry does
pub matches_is : (ws : List ℕ) (i v asid : ℕ) → asid < 2 ^ 8 → word_hits ws i (key_of v asid) ≡ matches_of (entry_in ws i) v asid
unfolding key_hits matches_of entry_in
matches_is ws i v asid ha =
    let m = low32_of (get_or ws (4 * i) 0) in
    let x = word_in ws i 1 in
    let r = field_of v 63 62 in
    let s = field_of x 63 62 in
    let w = field_of v 39 13 * 2 ^ 13 in
    let u = field_of x 39 13 * 2 ^ 13 in
    let hw : w < 2 ^ 62 = omega (arith, field_lt v 39 13) in
    let hu : u < 2 ^ 62 = omega (arith, field_lt x 39 13) in
    rw (
      key_tag v asid ha,
      key_asid v asid ha,
      above 62 2 m r w (omega arith) hw (field_lt v 63 62),
      above 62 2 m s u (omega arith) hu (field_lt x 63 62),
      parts r s (cleared m w) (cleared m u) (lt_of_le_of_lt (cleared_le 64 m w) hw) (lt_of_le_of_lt (cleared_le 64 m u) hu),
    )

-- what the code asks
module _ (mask hi lo0 key : ℕ) (hh : hi < 2 ^ 64) (hk : key < 2 ^ 64) where
  abbrev left : ℕ
  left = bit_and (bit_and (bit_xor key hi) (2 ^ 64 - 1 - mask % 2 ^ 32)) compared

  tags : eqb left 0 ≡ eqb (cleared (low32_of mask) (tag_of key)) (cleared (low32_of mask) (tag_of hi))
  tags = by_tags (mask % 2 ^ 32) key hi (omega arith) hk hh

  pub other_tag : (left ≡ 0 → ⊥) → false ≡ key_hits mask hi lo0 key
  unfolding key_hits
  other_tag n = rw (← tags, ne_eqb left 0 n)

  pub own_asid : left ≡ 0 → bit_xor key hi % 256 ≡ 0 → true ≡ key_hits mask hi lo0 key
  unfolding key_hits
  own_asid e a =
      let q : eqb (field_of hi 7 0) (field_of key 7 0) ≡ true = sym (by_asid hi key) ∙ rw (xor_comm hi key) (eq-eqb _ _ a) in
      rw (← tags, eq-eqb left 0 e, q) (sym (or_true (eqb (field_of lo0 0 0) 1)))
    where
      or_true : (b : Bool) → (b || true) ≡ true
      or_true true = refl
      or_true false = refl

  pub by_global : left ≡ 0 → (bit_xor key hi % 256 ≡ 0 → ⊥) → eqb (lo0 % 2) 1 ≡ key_hits mask hi lo0 key
  unfolding key_hits
  by_global e a =
      let q : eqb (field_of hi 7 0) (field_of key 7 0) ≡ false = sym (by_asid hi key) ∙ rw (xor_comm hi key) (ne_eqb _ _ a) in
      let g : lo0 % 2 ≡ field_of lo0 0 0 = omega arith in
      rw (← tags, eq-eqb left 0 e, q, g) (sym (or_false (eqb (field_of lo0 0 0) 1)))
    where
      or_false : (b : Bool) → (b || false) ≡ b
      or_false true = refl
      or_false false = refl
