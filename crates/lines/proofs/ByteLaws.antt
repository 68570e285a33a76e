-- Lent bytes: places within them, copies, and bytes joined to a number one by one.
use mathlib.Core.Path.{◌≡◌, refl, ap, sym}
use mathlib.Core.Bool.{Bool, true, false, cond}
use mathlib.Core.List.{List, [], ◌∷◌}
use Prim.Native.Nat.{ℕ, zero, suc, ◌+◌, ◌-◌, ◌*◌, ◌^◌, ◌<◌, ◌≤◌}
use native.Mathlib.Nat.{pow-suc, pow-le-pow_right}
use native.Mathlib.Numerals.{add-one}
use native.Mathlib.Omega.{arith}
use lib.ListN.{length, get_or, take, drop, replicate, length-drop, drop_of_length-le}
use lib.Seq.{paste, drop-cons}
use borrow.Author.Tests.{le-leb}
use Rattle.lines.specs.Bytes.{joined, big_endian, eight, bytes_of, copied, line_if, number_put}

-- within a lent part, the total definitions are the plain ones
module _ (ls : List ℕ) (at n : ℕ) (h : at + n ≤ length ls) where
  pub copied_is : (bs : List ℕ) → length bs ≡ n → copied ls at bs ≡ paste ls at bs n
  unfolding copied
  copied_is bs e = rw (e, le-leb (at + n) (length ls) h)

  pub line_is : line_if n true ls at ≡ take n (drop at ls)
  unfolding line_if
  line_is = rw (le-leb (at + n) (length ls) h)

  pub line_if_lem : (b : Bool) → line_if n b ls at ≡ cond b (take n (drop at ls)) (replicate n 0)
  unfolding line_if
  line_if_lem true = line_is
  line_if_lem false = refl

  pub put_is : n ≤ 8 → (v : ℕ) → number_put ls at n v ≡ paste ls at (bytes_of n v) n
  unfolding number_put
  put_is k v = rw (le-leb n 8 k) (copied_is (bytes_of n v) (omega (arith, length-drop (8 - n) (eight v))))

-- i bytes are below 256 to the i, so eight of them fit a word
module _ (v i b : ℕ) (h : v < 256 ^ i) (k : b < 256) where
  pub grown : v * 256 + b < 256 ^ (i + 1)
  grown = rw add-one (omega (arith, pow-suc 256 i))

  pub fits : i < 8 → v * 256 + b < 2 ^ 64
  fits l =
      let top : 256 ^ (i + 1) ≤ 256 ^ 8 = pow-le-pow_right (omega arith) {i = i + 1} {j = 8} (omega arith) in
      omega (arith, grown)

-- the bytes from i on, joined to v
module _ (v i : ℕ) (s : List ℕ) where
  pub joined_last : length s ≤ i → joined v (drop i s) ≡ v
  unfolding joined
  joined_last h = rw (drop_of_length-le s h)

  pub joined_more : i < length s → joined v (drop i s) ≡ joined (v * 256 + get_or s i 0) (drop (i + 1) s)
  unfolding joined
  joined_more h = rw (add-one, drop-cons s i 0 h)

-- eight bytes as two halves
pub of_eight : (a b c d e f g h : ℕ)
    → big_endian (a ∷ b ∷ c ∷ d ∷ []) * 2 ^ 32 + big_endian (e ∷ f ∷ g ∷ h ∷ []) ≡ big_endian (a ∷ b ∷ c ∷ d ∷ e ∷ f ∷ g ∷ h ∷ [])
unfolding joined
of_eight a b c d e f g h = omega arith

-- a list by its elements
unfoldable pub each : ℕ → ℕ → List ℕ → List ℕ
each zero i s = []
each (suc n) i s = get_or s i 0 ∷ each n (suc i) s

pub each_is : (n i : ℕ) (s : List ℕ) → length s ≡ i + n → each n i s ≡ drop i s
unfolding each
each_is zero i s h = sym (drop_of_length-le s {i = i} (omega arith))
each_is (suc n) i s h = rw (drop-cons s i 0 (omega arith)) (ap (λ (l : List ℕ). get_or s i 0 ∷ l) (each_is n (suc i) s (omega arith)))
