-- `bits::with_field` replaces the field and leaves the bits around it.
use Rattle.std.proofs.Common.{◌≡◌, ℕ, ◌+◌, ◌-◌, ◌*◌, ◌/◌, ◌%◌, ◌^◌, ◌≤◌, ◌∙◌, ap₂, arith, rules, le-leb}
use borrow.Author.Tests.{lt-leb}
use Rattle.bits.specs.Field.{field_of, with_field_of}
use Rattle.bits.proofs.FieldLaws.{unit, field_low, new, replaced, replaced_lt}
use Rattle.bits.proofs.fields.with_field.Goals as goal

-- the old and the new field at their place, as the code computes them
module _ (x hi lo v f g : ℕ) (le : lo ≤ hi) (top : hi ≤ 63) (of : f ≡ field_of x hi lo) (og : g ≡ field_of v (hi - lo) 0) where
  old-at : f * ((1 * 2 ^ lo) % 2 ^ 64) ≡ field_of x hi lo * 2 ^ lo
  old-at = ap₂ (λ (a b : ℕ). a * b) of (unit lo (omega arith))

  new-at : g * ((1 * 2 ^ lo) % 2 ^ 64) ≡ new x hi lo le v
  new-at = ap₂ (λ (a b : ℕ). a * b) (og ∙ field_low v hi lo le) (unit lo (omega arith))

  sum-at : x - f * ((1 * 2 ^ lo) % 2 ^ 64) + g * ((1 * 2 ^ lo) % 2 ^ 64) ≡ x / 2 ^ (hi + 1) * 2 ^ (hi + 1) + new x hi lo le v + x % 2 ^ lo
  sum-at = rw (old-at, new-at) (replaced x hi lo le v)

pub returns-then-hi-lo : goal.returns-then-hi-lo
unfolding with_field_of
returns-then-hi-lo c = simp (lt-leb _ _ c.if-hi-lo.true)

pub returns-then-hi-gt63 : goal.returns-then-hi-gt63
unfolding with_field_of
returns-then-hi-gt63 c = simp (le-leb _ _ c.if-hi-lo.false, lt-leb _ _ c.if-hi-gt63.true)

pub overflow_mul-new : goal.overflow_mul-new
overflow_mul-new c =
    let a = c.args in
    record {
      fits =
          rw (new-at a.x a.hi a.lo a.v _ _ (search rules) (search rules) c.field.ensures c.field-2.ensures)
          (omega (arith, replaced_lt a.x a.hi a.lo (search rules) (search rules) (search rules) a.v));
    }

pub overflow_add-result : goal.overflow_add-result
overflow_add-result c =
    let a = c.args in
    record {
      fits =
          rw (sum-at a.x a.hi a.lo a.v _ _ (search rules) (search rules) c.field.ensures c.field-2.ensures)
          (replaced_lt a.x a.hi a.lo (search rules) (search rules) (search rules) a.v);
    }

pub returns : goal.returns
unfolding with_field_of
returns c =
    let a = c.args in
    rw (
      sum-at a.x a.hi a.lo a.v _ _ (search rules) (search rules) c.field.ensures c.field-2.ensures,
      le-leb a.lo a.hi (search rules),
      le-leb a.hi 63 (search rules),
    )
