-- A word's bits under a mask.
use Rattle.std.specs.Prelude.{ℕ, zero, suc, ◌+◌, ◌*◌, ◌/◌, ◌%◌, cond, ◌==◌, bit_and}

-- the bits of x under the mask m, and 0 elsewhere
abbrev pub under : ℕ → ℕ → ℕ
under m x = bit_and x m

-- the lowest n bits, one by one: x's where m has a 1, y's where it has a 0
unfoldable pub merged_bits : ℕ → ℕ → ℕ → ℕ → ℕ
merged_bits zero m x y = 0
merged_bits (suc n) m x y = merged_bits n (m / 2) (x / 2) (y / 2) * 2 + cond (m % 2 == 1) (x % 2) (y % 2)

-- the bits of x under the mask m, and those of y elsewhere
abbrev pub merged : ℕ → ℕ → ℕ → ℕ
merged m x y = merged_bits 64 m x y

-- x with the bits of the mask m cleared
abbrev pub cleared : ℕ → ℕ → ℕ
cleared m x = merged m 0 x
