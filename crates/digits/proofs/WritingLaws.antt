-- Laws of digits that are written: the digit at a place as a field of the word, and where each stands.
use mathlib.Core.Path.{◌≡◌, refl, ap, ap₂, sym, ◌∙◌}
use mathlib.Core.Bool.{true, false}
use mathlib.Core.List.{List}
use Prim.Native.Nat.{ℕ, zero, suc, ◌+◌, ◌-◌, ◌*◌, ◌/◌, ◌%◌, ◌^◌, ◌<◌, ◌≤◌}
use native.Mathlib.Nat.{not-suc-le-zero, pow-suc, pow-le-pow_right, div-eq_of_lt}
use native.Mathlib.Omega.{arith}
use lib.ListN.{length, get_or}
use lib.Pow.{pow-add}
use lib.Seq.{paste}
use borrow.Author.Tests.{le-leb, lt-leb}
use Rattle.bits.specs.Field.{field_of}
use Rattle.digits.specs.Writing.{lowercase_of, place_of, digits_of, has_room, put_of}

-- a digit is four bits
pub bits_of : (k : ℕ) → 2 ^ (4 * k) ≡ 16 ^ k
bits_of zero = refl
bits_of (suc k) =
    let more : 4 * suc k ≡ 4 * k + 4 = omega arith in
    ap (λ (n : ℕ). 2 ^ n) more ∙ pow-add 2 (4 * k) 4 ∙ ap (λ (n : ℕ). n * 16) (bits_of k) ∙ sym (pow-suc 16 k)

pub field_is : (v k : ℕ) → field_of v (4 * k + 3) (4 * k) ≡ v / 16 ^ k % 16
field_is v k =
    let wide : 4 * k + 3 + 1 - 4 * k ≡ 4 = omega arith in
    ap₂ (λ (p n : ℕ). v / p % 2 ^ n) (bits_of k) wide

-- a word has zeros from place 16 on
pub zero_above : (v k : ℕ) → v < 2 ^ 64 → 15 < k → place_of v k ≡ 48
unfolding place_of lowercase_of
zero_above v k h l =
    let top : 16 ^ 16 ≤ 16 ^ k = pow-le-pow_right (omega arith) {i = 16} {j = k} l in
    rw (div-eq_of_lt {n = v} {m = 16 ^ k} (omega arith))

-- as many digits as the width says
pub digits_length : (w v : ℕ) → length (digits_of w v) ≡ w
unfolding digits_of
digits_length zero v = refl
digits_length (suc k) v = ap suc (digits_length k v)

-- the digit that is i from the front
pub digit_at : (w v i : ℕ) → i < w → get_or (digits_of w v) i 0 ≡ place_of v (w - i - 1)
unfolding digits_of
digit_at zero v i h = absurd (not-suc-le-zero h)
digit_at (suc k) v zero h =
    let all : suc k - 0 - 1 ≡ k = omega arith in
    rw all
digit_at (suc k) v (suc i) h =
    let less : suc k - suc i - 1 ≡ k - i - 1 = omega arith in
    rw less (digit_at k v i (omega arith))

-- what the tests of the room say
module _ (out : List ℕ) (at width : ℕ) where
  pub room : at + width ≤ length out → has_room out at width ≡ true
  unfolding has_room
  room h = le-leb (at + width) (length out) h

  pub no_room : length out < at + width → has_room out at width ≡ false
  unfolding has_room
  no_room h = lt-leb (at + width) (length out) h

  module _ (v : ℕ) where
    pub put_there : at + width ≤ length out → put_of out at width v ≡ paste out at (digits_of width v) width
    unfolding put_of
    put_there h = rw (room h)

    pub put_nowhere : length out < at + width → put_of out at width v ≡ out
    unfolding put_of
    put_nowhere h = rw (no_room h)
