-- The values of answers are one-to-one: each has the answer that it came from.
use Rattle.std.proofs.Common.{◌≡◌, ℕ, Option, Some, None, refl, ap, length, get_or, arith}
use Rattle.bits.specs.Told.{Told}
use Rattle.digits.specs.Answers.{told_digit, told_number}

pub digit_one : (a a' : Option ℕ) → told_digit a ≡ told_digit a' → a ≡ a'
digit_one (Some v) (Some v') e = ap Some (ap (λ (t : Told). get_or t.values 0 0) e)
digit_one (Some v) None e = absurd (omega (arith, ap (λ (t : Told). length t.values) e))
digit_one None (Some v) e = absurd (omega (arith, ap (λ (t : Told). length t.values) e))
digit_one None None e = refl

pub number_one : (a a' : Option ℕ) → told_number a ≡ told_number a' → a ≡ a'
number_one = digit_one
