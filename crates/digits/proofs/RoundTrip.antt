-- What `put` writes is digits, and `parse` reads the number back from them.
use mathlib.Core.Path.{◌≡◌, refl, ap, sym, ◌∙◌}
use mathlib.Core.Bool.{true}
use mathlib.Core.List.{List, [], ◌∷◌, ◌++◌, append_assoc}
use Prim.Native.Nat.{ℕ, zero, suc, ◌+◌, ◌-◌, ◌/◌, ◌%◌, ◌^◌, ◌<◌, ◌≤◌}
use native.Mathlib.Nat.{mod-lt, mod-one, mod-eq_of_lt, pow-succ'}
use native.Mathlib.Omega.{arith}
use lib.Arith.{mod-mul}
use lib.Dec.{eqb}
use lib.ListN.{length, get_or, take, drop}
use lib.Seq.{length-take-le, take_all, take_at, drop_at}
use borrow.Author.Tests.{eqb-true, leb-true}
use contract.Lifetimes as Lifetimes
use borrow.Fn.World as World
use Rattle.bits.specs.Told.{answered}
use Rattle.bits.proofs.Tables.{at_each}
use Rattle.std.proofs.Common.{Option, Some}
use Rattle.digits.specs.Reading.{within, is_digit, worth, all_digits, value_of, number_told}
use Rattle.digits.specs.Writing.{lowercase_of, is_lowercase, place_of, digits_of, has_room, put_of}
use Rattle.digits.proofs.Answers.{number_one}
use Rattle.digits.proofs.ReadingLaws.{inside}
use Rattle.digits.proofs.WritingLaws.{digits_length, digit_at, put_there}
use Rattle.digits.specs.contracts.reading.parse as parse
use Rattle.digits.proofs.reading.parse.Reads as parse_reads
use Rattle.digits.specs.contracts.writing.put as put
use Rattle.digits.proofs.writing.put.Reads as put_reads

-- the sixteen digits, each by itself
module _ (d : ℕ) (h : d < 16) where
  digit_is_lowercase : is_lowercase (lowercase_of d) ≡ true
  unfolding is_lowercase within lowercase_of
  digit_is_lowercase = at_each 16 (λ k. is_lowercase (lowercase_of k)) refl d h

  digit_is_digit : is_digit (lowercase_of d) ≡ true
  unfolding is_digit within lowercase_of
  digit_is_digit = at_each 16 (λ k. is_digit (lowercase_of k)) refl d h

  digit_is_worth : worth (lowercase_of d) ≡ d
  unfolding worth within lowercase_of
  digit_is_worth = eqb-true (worth (lowercase_of d)) d (at_each 16 (λ k. eqb (worth (lowercase_of k)) k) refl d h)

sixteen : (v k : ℕ) → v / 16 ^ k % 16 < 16
sixteen v k = mod-lt (v / 16 ^ k) {m = 16} (omega arith)

power : (k : ℕ) → 0 < 16 ^ k
power zero = omega arith
power (suc k) = rw (pow-succ' 16 k) (omega (arith, power k))

-- each is a lowercase digit
pub each_lowercase : (w v i : ℕ) → i < w → is_lowercase (get_or (digits_of w v) i 0) ≡ true
unfolding place_of
each_lowercase w v i h = rw (digit_at w v i h) (digit_is_lowercase (v / 16 ^ (w - i - 1) % 16) (sixteen v (w - i - 1)))

-- and so a digit; together they are worth the number's lowest digits
pub all_digits_lem : (w v : ℕ) → all_digits (digits_of w v) ≡ true
unfolding all_digits digits_of place_of
all_digits_lem zero v = refl
all_digits_lem (suc k) v = rw (digit_is_digit (v / 16 ^ k % 16) (sixteen v k)) (all_digits_lem k v)

pub value_is : (w v : ℕ) → value_of (digits_of w v) ≡ v % 16 ^ w
unfolding value_of digits_of place_of
value_is zero v = sym (mod-one v)
value_is (suc k) v =
    rw (
      digit_is_worth (v / 16 ^ k % 16) (sixteen v k),
      digits_length k v,
      value_is k v,
      pow-succ' 16 k,
    )
    (sym (mod-mul v {m = 16} {c = 16 ^ k} (omega arith) (power k)))

-- read back at a width of 1 to 16, they are the number's lowest digits, and the number itself where it has no more
module _ (w v : ℕ) (h : 1 ≤ w) (k : w ≤ 16) where
  pub low_digits_back : number_told (digits_of w v) ≡ answered (v % 16 ^ w ∷ [])
  unfolding number_told
  low_digits_back = rw (digits_length w v, inside 1 16 w h k, all_digits_lem w v, value_is w v)

  pub number_back : v < 16 ^ w → number_told (digits_of w v) ≡ answered (v ∷ [])
  number_back l = low_digits_back ∙ ap (λ (n : ℕ). answered (n ∷ [])) (mod-eq_of_lt l)

-- what stands at the place is the digits
pub written : (out : List ℕ) (at w v : ℕ) → at + w ≤ length out → take w (drop at (put_of out at w v)) ≡ digits_of w v
written out at w v h =
    let long : length (digits_of w v) ≡ w = digits_length w v in
    let all : take w (digits_of w v) ≡ digits_of w v = take_all w (digits_of w v) (omega arith) in
    rw (
      put_there out at w v h,
      all,
      append_assoc (take at out) (digits_of w v) (drop (at + w) out),
      drop_at (take at out) (digits_of w v ++ drop (at + w) out) at (length-take-le at out (omega arith)),
    )
    (take_at (digits_of w v) (drop (at + w) out) w long)

-- the same of the two functions, by their contracts: where `put` had room, `parse` of what it wrote is the number
module _ (κs : Lifetimes.Lfts 1) (a : World.ArgsD put.signature κs) where
  abbrev place : ℕ
  place = a.1.0

  abbrev width : ℕ
  width = a.1.1.0

  abbrev value : ℕ
  value = a.1.1.1.0

  pub parse_of_put : 1 ≤ width → width ≤ 16 → value < 16 ^ width
      → (s : _) → put_reads.Post κs a true s
      → (κs' : Lifetimes.Lfts 1) (b : World.ArgsD parse.signature κs') → b.0.now ≡ take width (drop place s.0.now)
      → (n : Option ℕ) (s' : _) → parse_reads.Post κs' b n s' → n ≡ Some value
  unfolding has_room
  parse_of_put l m small s p κs' b word n s' q =
      let room : place + width ≤ length a.0.now = leb-true _ _ (sym p.0) in
      let read : b.0.now ≡ digits_of width value = word ∙ rw p.1 (written a.0.now place width value room) in
      number_one n (Some value) (q ∙ ap number_told read ∙ number_back width value l m small)
