-- The lengths of an access.
use mathlib.Core.Path.{◌≡◌, refl}
use mathlib.Core.Bool.{Bool, true, false, ◌&&◌, cond}
use Prim.Native.Nat.{ℕ, ◌+◌, ◌%◌, ◌≤◌}
use native.Mathlib.Omega.{arith}
use lib.Dec.{leb}
use borrow.Author.Tests.{leb-true}
use Rattle.std.proofs.Common.{Result, Ok, Err}
use Rattle.lines.specs.Access.{access_refusal, check_number}
use Rattle.lines.specs.declared.access.Refusal.{Refusal}
use Rattle.lines.specs.declared.access.Refusal.TheVariants.{Length, Crossing}

module _ (a len : ℕ) where
  -- an access that is not refused has at most eight bytes, within its line
  pub allowed : access_refusal a len ≡ 0 → (len ≤ 8) × (a % 16 + len ≤ 16)
  unfolding access_refusal
  allowed e = go (leb 1 len) (leb len 8) (leb (a % 16 + len) 16) refl refl e
    where
      go : (x y z : Bool) → leb len 8 ≡ y → leb (a % 16 + len) 16 ≡ z
          → ◌≡◌ {A = ℕ} (cond (x && y) (cond z 0 3) 2) 0 → (len ≤ 8) × (a % 16 + len ≤ 16)
      go true true true p q e = (leb-true len 8 p, leb-true (a % 16 + len) 16 q)
      go true true false p q e = absurd (omega arith)
      go true false z p q e = absurd (omega arith)
      go false y z p q e = absurd (omega arith)

-- a check's number tells what it answers
pub check_one : (r r' : Result (Unit {0}) Refusal) → check_number r ≡ check_number r' → r ≡ r'
check_one (Ok u) (Ok u') e = refl
check_one (Ok u) (Err Length) e = absurd (omega arith)
check_one (Ok u) (Err Crossing) e = absurd (omega arith)
check_one (Err Length) (Ok u) e = absurd (omega arith)
check_one (Err Length) (Err Length) e = refl
check_one (Err Length) (Err Crossing) e = absurd (omega arith)
check_one (Err Crossing) (Ok u) e = absurd (omega arith)
check_one (Err Crossing) (Err Length) e = absurd (omega arith)
check_one (Err Crossing) (Err Crossing) e = refl
