-- The sign of 32 bits, by turning bit 31 and taking it away again.
use Rattle.std.proofs.Common.{◌≡◌, ℕ, ◌+◌, ◌-◌, ◌*◌, ◌%◌, ◌^◌, ◌<◌, ap, ◌∙◌, arith, le-ltb, lt-ltb}
use native.Mathlib.Decide.{dec_lt}
use lib.Bits.{bit_xor, xor_comm, xor_shifted, xor_block, xor_zero_r, xor_self}
use Rattle.bits.specs.Extension.{sign_extended}

-- bit 31 is turned
low : (x : ℕ) → x < 2 ^ 31 → bit_xor x (2 ^ 31) ≡ 2 ^ 31 + x
low x h = xor_comm x (2 ^ 31) ∙ xor_shifted 1 31 x h

high : (y : ℕ) → y < 2 ^ 31 → bit_xor (1 * 2 ^ 31 + y) (1 * 2 ^ 31 + 0) ≡ y
high y h = xor_block 31 1 1 y 0 h (omega arith) ∙ omega (arith, xor_self 1, xor_zero_r y)

pub signed : (r x : ℕ) → x < 2 ^ 32 → r < 2 ^ 64 → (r + 2 ^ 31) % 2 ^ 64 ≡ bit_xor x (2 ^ 31) → r ≡ sign_extended x
signed r x hx hr e = go (dec_lt x (2 ^ 31))
  where
    go : Dec (x < 2 ^ 31) → r ≡ sign_extended x
    go (yes p) = rw (lt-ltb x (2 ^ 31) p) (omega (arith, e, low x p))
    go (no p) =
        let y : ℕ = x - 2 ^ 31 in
        let split : x ≡ 1 * 2 ^ 31 + y = omega arith in
        let t : bit_xor x (2 ^ 31) ≡ y = ap (λ (z : ℕ). bit_xor z (2 ^ 31)) split ∙ high y (omega arith) in
        rw (le-ltb x (2 ^ 31) (omega arith)) (omega (arith, e, t))
