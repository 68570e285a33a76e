-- Base and offset of a vector are a word together.
use Rattle.std.proofs.Common.{ℕ, ◌≤◌, Bool, true, false, cond, eqb, arith}
use Rattle.bits.specs.Field.{field_of}
use Rattle.exception.specs.Vectors.{base_of, refill_offset_of}

one_of : (b : Bool) (x y z : ℕ) → x ≤ z → y ≤ z → cond b x y ≤ z
one_of true x y z hx hy = hx
one_of false x y z hx hy = hy

pub base_le : (s : ℕ) → base_of s ≤ 0xFFFF_FFFF_BFC0_0200
base_le s = one_of (eqb (field_of s 22 22) 1) _ _ _ (omega arith) (omega arith)

pub offset_le : (s own : ℕ) → own ≤ 0x180 → refill_offset_of s own ≤ 0x180
offset_le s own h = one_of (eqb (field_of s 1 1) 1) _ _ _ (omega arith) h
