-- The lengths of the lent parts.
use mathlib.Core.Path.{◌≡◌, refl, sym, ◌∙◌}
use mathlib.Core.Bool.{Bool, true, false, ◌&&◌}
use mathlib.Core.List.{List}
use Prim.Native.Nat.{ℕ, ◌+◌, ◌*◌, ◌≤◌}
use native.Mathlib.Nat.{suc-mul, mul-le-mul_right}
use native.Mathlib.Numerals.{add-one}
use native.Mathlib.Omega.{arith}
use lib.Dec.{eqb}
use lib.ListN.{length}
use borrow.Author.Tests.{eqb-true}
use Rattle.std.proofs.Common.{Ok}
use Rattle.tags.specs.Places.{index_of, start_of}
use Rattle.cache.specs.Answers.{lent_if}
use Rattle.cache.specs.Both.{sized}

pub both : (a b : Bool) → (a && b) ≡ true → (a ≡ true) × (b ≡ true)
both true b e = (refl, e)
both false b e = let z : ◌≡◌ {A = ℕ} 0 1 = cc in absurd (omega arith)

-- what the test of both lengths says, as its result r has it
pub lengths : (bytes : ℕ) (ls ws : List ℕ) {r : Bool} → r ≡ sized bytes ls ws → r ≡ true → (length ls ≡ bytes) × (length ws ≡ 512)
unfolding sized
lengths bytes ls ws e t =
    let p = both (eqb (length ls) bytes) (eqb (length ws) 512) (sym e ∙ t) in
    (eqb-true _ _ p.0, eqb-true _ _ p.1)

-- the test of the lent parts has passed
pub passed : (b : Bool) (u : Unit {0}) → Ok u ≡ lent_if b → b ≡ true
passed true u e = refl
passed false u e = cc

-- and of both, so the bytes of all lines are there
pub all_there : (bytes : ℕ) (ls ws : List ℕ) (u : Unit {0}) → Ok u ≡ lent_if (sized bytes ls ws) → length ls ≡ bytes
all_there bytes ls ws u e = (lengths bytes ls ws refl (passed _ u e)).0

-- a line is within 512 of its size
pub line_inside : (size a : ℕ) → start_of size a + size ≤ 512 * size
line_inside size a =
    let i : ℕ = index_of size a in
    let up : (i + 1) * size ≤ 512 * size = mul-le-mul_right size (omega arith) in
    rw (← suc-mul i size, ← add-one i) up
