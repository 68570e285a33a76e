-- The numbers and values of answers are one-to-one: each has the answer that it came from.
use mathlib.Core.Path.{◌≡◌, refl, ap, sym}
use mathlib.Core.List.{List, [], ◌∷◌}
use Prim.Native.Nat.{ℕ}
use native.Mathlib.Omega.{arith}
use Rattle.std.proofs.Common.{Bool, true, false, Option, Some, None, Result, Ok, Err}
use Rattle.bits.specs.Field.{bit}
use Rattle.bits.specs.Told.{Told}
use Rattle.lines.specs.declared.access.Refusal.TheVariants.{Length, Crossing}
use Rattle.cache.specs.declared.answers.Refusal.{Refusal}
use Rattle.cache.specs.declared.answers.Refusal.TheVariants.{Lent, Access}
use Rattle.cache.specs.declared.answers.Plan.{Plan}
use Rattle.cache.specs.declared.answers.Plan.TheVariants.{Hit, Fill, Evict}
use Rattle.cache.specs.Answers.{refusal_number, told_by, plan_values, writeback_values, told_done, told_asked, told_value, told_plan, told_writeback}

-- a refusal's number is 1, 2 or 3, and not the 0 of an answer
refusal_one : (r r' : Refusal) → refusal_number r ≡ refusal_number r' → r ≡ r'
refusal_one Lent Lent e = refl
refusal_one Lent (Access Length) e = absurd (omega arith)
refusal_one Lent (Access Crossing) e = absurd (omega arith)
refusal_one (Access Length) Lent e = absurd (omega arith)
refusal_one (Access Crossing) Lent e = absurd (omega arith)
refusal_one (Access Length) (Access Length) e = refl
refusal_one (Access Length) (Access Crossing) e = absurd (omega arith)
refusal_one (Access Crossing) (Access Length) e = absurd (omega arith)
refusal_one (Access Crossing) (Access Crossing) e = refl

refusal_not_0 : (r : Refusal) → 0 ≡ refusal_number r → ⊥
refusal_not_0 Lent e = omega arith
refusal_not_0 (Access Length) e = omega arith
refusal_not_0 (Access Crossing) e = omega arith

-- so an answer is told one-to-one where its values are
module _ {A : Type 0} (values : A → List ℕ) (one : (a a' : A) → values a ≡ values a' → a ≡ a') where
  told_one : (r r' : Result A Refusal) → told_by values r ≡ told_by values r' → r ≡ r'
  told_one (Ok a) (Ok a') e = ap Ok (one a a' (ap (λ (t : Told). t.values) e))
  told_one (Ok a) (Err r) e = absurd (refusal_not_0 r (ap (λ (t : Told). t.number) e))
  told_one (Err r) (Ok a) e = absurd (refusal_not_0 r (sym (ap (λ (t : Told). t.number) e)))
  told_one (Err r) (Err r') e = ap Err (refusal_one r r' (ap (λ (t : Told). t.number) e))

bit_one : (a b : Bool) → ◌≡◌ {A = List ℕ} (bit a ∷ []) (bit b ∷ []) → a ≡ b
bit_one true true e = refl
bit_one true false e = cc
bit_one false true e = cc
bit_one false false e = refl

plan_values_one : (p p' : Plan) → plan_values p ≡ plan_values p' → p ≡ p'
plan_values_one Hit Hit e = refl
plan_values_one Hit Fill e = cc
plan_values_one Hit (Evict a) e = cc
plan_values_one Fill Hit e = cc
plan_values_one Fill Fill e = refl
plan_values_one Fill (Evict a) e = cc
plan_values_one (Evict a) Hit e = cc
plan_values_one (Evict a) Fill e = cc
plan_values_one (Evict a) (Evict b) e = cc

writeback_values_one : (o o' : Option ℕ) → writeback_values o ≡ writeback_values o' → o ≡ o'
writeback_values_one None None e = refl
writeback_values_one None (Some a) e = cc
writeback_values_one (Some a) None e = cc
writeback_values_one (Some a) (Some b) e = cc

pub done_one : (d d' : Result (Unit {0}) Refusal) → told_done d ≡ told_done d' → d ≡ d'
done_one = told_one (λ (u : Unit {0}). 0 ∷ []) (λ u u' e. refl)

pub asked_one : (a a' : Result Bool Refusal) → told_asked a ≡ told_asked a' → a ≡ a'
asked_one = told_one (λ (b : Bool). bit b ∷ []) bit_one

pub value_one : (v v' : Result ℕ Refusal) → told_value v ≡ told_value v' → v ≡ v'
value_one = told_one (λ (v : ℕ). v ∷ []) (λ v v' e. cc)

pub plan_one : (p p' : Result Plan Refusal) → told_plan p ≡ told_plan p' → p ≡ p'
plan_one = told_one plan_values plan_values_one

pub writeback_one : (w w' : Result (Option ℕ) Refusal) → told_writeback w ≡ told_writeback w' → w ≡ w'
writeback_one = told_one writeback_values writeback_values_one
