-- `reading::parse` is the word's number: that of the digits passed, and then of those that are left. i digits are below 16
-- to the i, so 16 of them fit.
use mathlib.Core.Path.{◌≡◌, sym, ◌∙◌}
use mathlib.Core.List.{[], ◌∷◌}
use Prim.Native.Nat.{ℕ, ◌≤◌}
use native.Mathlib.Omega.{arith}
use Rattle.bits.specs.Told.{answered}
use Rattle.digits.specs.Reading.{digit_told}
use Rattle.digits.proofs.ReadingLaws.{worth_at_most, of_digit, no_digit, empty, long, read, last, more, none, grown, fits}
use Rattle.digits.proofs.reading.parse.Goals as goal

-- past that test the byte that was read is a digit, of this value
small : (b d : ℕ) → answered (d ∷ []) ≡ digit_told b → d ≤ 15
small b d e =
    let good = of_digit b d e in
    rw good.1 (worth_at_most b good.0)

pub returns-then-word-lt1 : goal.returns-then-word-lt1
returns-then-word-lt1 c = sym (empty _ c.if-word-lt1.true)

pub returns-then-word-gt16 : goal.returns-then-word-gt16
returns-then-word-gt16 c = sym (long _ c.if-word-gt16.true)

pub overflow_mul-value : goal.overflow_mul-value
overflow_mul-value c =
    let l = c.loop-b in
    record { fits = omega (arith, fits l.value l.b-index 0 l.invariant.0 (omega arith) (omega arith)) }

pub returns-in_err-value : goal.returns-in_err-value
returns-in_err-value c =
    let l = c.loop-b in
    let bad = no_digit _ c.in_err-value.ensures in
    rw c.from_residual.ensures
    (sym (read _ (omega arith) (omega arith) ∙ l.invariant.1 ∙ none l.value l.b-index _ (omega arith) bad))

pub overflow_add-value : goal.overflow_add-value
overflow_add-value c =
    let l = c.loop-b in
    let d = c.in_ok-value in
    record { fits = omega (arith, fits l.value l.b-index d.field-0 l.invariant.0 (small _ _ d.ensures) (omega arith)) }

pub loop-b-preserved : goal.loop-b-preserved
loop-b-preserved c =
    let l = c.loop-b in
    let d = c.in_ok-value in
    let good = of_digit _ _ d.ensures in (
      grown l.value l.b-index d.field-0 l.invariant.0 (small _ _ d.ensures),
      l.invariant.1 ∙ rw good.1 (more l.value l.b-index _ (omega arith) good.0),
    )

pub returns : goal.returns
returns c =
    let l = c.loop-b in
    sym (read _ (omega arith) (omega arith) ∙ l.invariant.1 ∙ last l.value l.b-index _ (omega arith))
