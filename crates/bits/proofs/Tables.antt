-- A rule of every number below a limit, by one test that is computed at each of them.
use Rattle.std.proofs.Common.{◌≡◌, ℕ, zero, suc, ◌<◌, Bool, true, false, not, ◌&&◌, eqb, List, [], ◌∷◌, sym, refl, subst, ap₂, not-suc-le-zero, arith, eqb-true}
use mathlib.Core.Bool.{false≢true}
use native.Mathlib.Decide.{ℕ_discrete}
use Rattle.bits.specs.Told.{Told, equal}

pub and_left : (a b : Bool) → (a && b) ≡ true → a ≡ true
and_left true b e = refl
and_left false b e = e

pub and_right : (a b : Bool) → (a && b) ≡ true → b ≡ true
and_right true b e = e
and_right false true e = refl
and_right false false e = e

-- the test holds at each number below n
abbrev pub below : ℕ → (ℕ → Bool) → Bool
below zero f = true
below (suc n) f = f n && below n f

pub at_each : (n : ℕ) (f : ℕ → Bool) → below n f ≡ true → (k : ℕ) → k < n → f k ≡ true
at_each zero f e k h = absurd (not-suc-le-zero h)
at_each (suc n) f e k h = go (ℕ_discrete k n) (at_each n f (and_right (f n) (below n f) e) k)
  where
    go : Dec (k ≡ n) → (k < n → f k ≡ true) → f k ≡ true
    go (yes p) rest = subst (λ (m : ℕ). f m ≡ true) (sym p) (and_left (f n) (below n f) e)
    go (no p) rest = rest (omega arith)

-- two tests answer alike
abbrev pub alike : Bool → Bool → Bool
alike true b = b
alike false b = not b

pub alike_eq : (a b : Bool) → alike a b ≡ true → a ≡ b
alike_eq true true e = refl
alike_eq true false e = sym e
alike_eq false true e = e
alike_eq false false e = refl

-- two tests that answer alike at each number below n are equal there
pub agree : (n : ℕ) (f g : ℕ → Bool) → below n (λ k. alike (f k) (g k)) ≡ true → (k : ℕ) → k < n → f k ≡ g k
agree n f g e k h = alike_eq (f k) (g k) (at_each n (λ k. alike (f k) (g k)) e k h)

equal_eq : (xs ys : List ℕ) → equal xs ys ≡ true → xs ≡ ys
equal_eq [] [] e = refl
equal_eq [] (y ∷ ys) e = absurd (false≢true e)
equal_eq (x ∷ xs) [] e = absurd (false≢true e)
equal_eq (x ∷ xs) (y ∷ ys) e =
    ap₂ ◌∷◌ (eqb-true x y (and_left (eqb x y) (equal xs ys) e)) (equal_eq xs ys (and_right (eqb x y) (equal xs ys) e))

-- two answers are told alike
abbrev pub told_alike : Told → Told → Bool
told_alike t u = eqb t.number u.number && equal t.values u.values

told_eq : (t u : Told) → told_alike t u ≡ true → t ≡ u
told_eq t u e =
    ap₂ (λ (n : ℕ) (vs : List ℕ). record { number = n; values = vs })
    (eqb-true t.number u.number (and_left (eqb t.number u.number) (equal t.values u.values) e))
    (equal_eq t.values u.values (and_right (eqb t.number u.number) (equal t.values u.values) e))

-- two rules that tell alike at each number below n tell the same there
pub agree_told : (n : ℕ) (f g : ℕ → Told) → below n (λ k. told_alike (f k) (g k)) ≡ true → (k : ℕ) → k < n → f k ≡ g k
agree_told n f g e k h = told_eq (f k) (g k) (at_each n (λ k. told_alike (f k) (g k)) e k h)
