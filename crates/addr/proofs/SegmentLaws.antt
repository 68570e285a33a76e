-- A direct address fits 32 bits.
use Prim.Native.Nat.{ℕ, ◌+◌, ◌-◌, ◌^◌, ◌<◌, ◌≤◌}
use native.Mathlib.Nat.{lt_of_lt_of_le, pow-le-pow_right}
use native.Mathlib.Omega.{arith}
use Rattle.bits.specs.Field.{field_of}
use Rattle.bits.proofs.FieldLaws.{field_lt}

pub low_lt : (v hi : ℕ) → hi ≤ 31 → field_of v hi 0 < 2 ^ 32
low_lt v hi h =
    let width : hi + 1 - 0 ≤ 32 = omega arith in
    lt_of_lt_of_le (field_lt v hi 0) (pow-le-pow_right (omega arith) width)
