-- Laws of digits that are read: ranges of bytes, one digit, a word's length, and one digit more.
use mathlib.Core.Path.{◌≡◌, refl, ap, sym}
use mathlib.Core.Bool.{Bool, true, false, cond, false≢true}
use mathlib.Core.List.{List, [], ◌∷◌}
use Prim.Native.Nat.{ℕ, suc, ◌+◌, ◌*◌, ◌^◌, ◌<◌, ◌≤◌}
use native.Mathlib.Nat.{pow-suc, pow-succ', pow-le-pow_right, mul_assoc, add-mul, add_assoc, zero-mul, zero-add}
use native.Mathlib.Numerals.{add-one}
use native.Mathlib.Omega.{arith}
use lib.Dec.{leb}
use lib.ListN.{length, get_or, drop, drop_of_length-le}
use lib.Seq.{drop-cons}
use borrow.Author.Tests.{le-leb, lt-leb, leb-true}
use Rattle.bits.specs.Told.{Told, answered}
use Rattle.bits.proofs.Tables.{and_left, and_right}
use Rattle.digits.specs.Reading.{within, is_digit, worth, digit_told, all_digits, value_of, number_told}

module _ (first last n : ℕ) where
  pub inside : first ≤ n → n ≤ last → within first last n ≡ true
  unfolding within
  inside h k = rw (le-leb first n h, le-leb n last k)

  pub below : n < first → within first last n ≡ false
  unfolding within
  below h = rw (lt-leb first n h)

  pub above : first ≤ last → last < n → within first last n ≡ false
  unfolding within
  above o h = rw (le-leb first n (omega arith), lt-leb n last h)

  pub from : within first last n ≡ true → first ≤ n
  unfolding within
  from t = leb-true first n (and_left (leb first n) (leb n last) t)

  pub to : within first last n ≡ true → n ≤ last
  unfolding within
  to t = leb-true n last (and_right (leb first n) (leb n last) t)

-- a digit is worth at most 15
pub worth_at_most : (b : ℕ) → is_digit b ≡ true → worth b ≤ 15
unfolding is_digit worth
worth_at_most b = go (within 48 57 b) (within 65 70 b) (within 97 102 b) refl refl refl
  where
    go : (x y z : Bool) → within 48 57 b ≡ x → within 65 70 b ≡ y → within 97 102 b ≡ z → is_digit b ≡ true → worth b ≤ 15
    go true y z p q r e = rw p (omega (arith, to 48 57 b p))
    go false true z p q r e = rw (p, q) (omega (arith, to 65 70 b q))
    go false false true p q r e = rw (p, q) (omega (arith, to 97 102 b r))
    go false false false p q r e = absurd (false≢true (rw (p, q, r) at e))

-- what an answer says of the byte
pub of_digit : (b d : ℕ) → answered (d ∷ []) ≡ digit_told b → (is_digit b ≡ true) × (d ≡ worth b)
unfolding digit_told
of_digit b d = go (is_digit b)
  where
    go : (x : Bool) → answered (d ∷ []) ≡ cond x (answered (worth b ∷ [])) (answered []) → (x ≡ true) × (d ≡ worth b)
    go true e = (refl, ap (λ (t : Told). get_or t.values 0 0) e)
    go false e = absurd (omega (arith, ap (λ (t : Told). length t.values) e))

pub no_digit : (b : ℕ) → answered [] ≡ digit_told b → is_digit b ≡ false
unfolding digit_told
no_digit b = go (is_digit b)
  where
    go : (x : Bool) → answered [] ≡ cond x (answered (worth b ∷ [])) (answered []) → x ≡ false
    go true e = absurd (omega (arith, ap (λ (t : Told). length t.values) e))
    go false e = refl

-- digits of value v, and then these
unfoldable pub after : ℕ → List ℕ → Told
after v s = cond (all_digits s) (answered ((v * 16 ^ length s + value_of s) ∷ [])) (answered [])

-- a word's length
module _ (s : List ℕ) where
  pub empty : length s < 1 → number_told s ≡ answered []
  unfolding number_told
  empty h = rw (below 1 16 (length s) h)

  pub long : 16 < length s → number_told s ≡ answered []
  unfolding number_told
  long h = rw (above 1 16 (length s) (omega arith) h)

  pub read : 1 ≤ length s → length s ≤ 16 → number_told s ≡ after 0 s
  unfolding number_told after
  read h k = rw (inside 1 16 (length s) h k, zero-mul (16 ^ length s), zero-add (value_of s))

-- a digit is joined to those before it
joined : (v w n x : ℕ) → v * 16 ^ suc n + (w * 16 ^ n + x) ≡ (v * 16 + w) * 16 ^ n + x
joined v w n x =
    rw (pow-succ' 16 n, ← mul_assoc v 16 (16 ^ n), add-mul (v * 16) w (16 ^ n)) (sym (add_assoc (v * 16 * 16 ^ n) (w * 16 ^ n) x))

-- the digits before i, of value v, and the digit at i
module _ (v i : ℕ) (s : List ℕ) where
  pub last : length s ≤ i → after v (drop i s) ≡ answered (v ∷ [])
  unfolding after all_digits value_of
  last h = rw (drop_of_length-le s h) (ap (λ (n : ℕ). answered (n ∷ [])) (omega arith))

  module _ (h : i < length s) where
    pub more : is_digit (get_or s i 0) ≡ true → after v (drop i s) ≡ after (v * 16 + worth (get_or s i 0)) (drop (i + 1) s)
    unfolding after all_digits value_of
    more k = rw (
      add-one,
      drop-cons s i 0 h,
      k,
      joined v (worth (get_or s i 0)) (length (drop (suc i) s)) (value_of (drop (suc i) s)),
    )

    pub none : is_digit (get_or s i 0) ≡ false → after v (drop i s) ≡ answered []
    unfolding after all_digits
    none k = rw (drop-cons s i 0 h, k)

-- i digits are below 16 to the i, so 16 of them fit a word
module _ (v i d : ℕ) (h : v < 16 ^ i) (k : d ≤ 15) where
  pub grown : v * 16 + d < 16 ^ (i + 1)
  grown = rw add-one (omega (arith, pow-suc 16 i))

  pub fits : i < 16 → v * 16 + d < 2 ^ 64
  fits l =
      let top : 16 ^ (i + 1) ≤ 16 ^ 16 = pow-le-pow_right (omega arith) {i = i + 1} {j = 16} (omega arith) in
      omega (arith, grown)
