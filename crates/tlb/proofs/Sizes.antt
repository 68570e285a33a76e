-- Page sizes and page masks as numbers.
use mathlib.Core.Path.{◌≡◌, ap, ap₂, sym, ◌∙◌}
use mathlib.Core.Bool.{Bool, true, false}
use Prim.Native.Nat.{ℕ, zero, suc, ◌+◌, ◌*◌, ◌/◌, ◌%◌, ◌^◌, ◌<◌, ◌≤◌}
use native.Mathlib.Nat.{add-zero, pow-suc, lt_of_lt_of_le, pow-le-pow_right}
use native.Mathlib.Omega.{arith}
use lib.Bits.{bit_and, bit_or, or_lt, or_add_and, and_le_l, and_zero_r, and_mask, and_block, or_block, or_shifted}
use mir.Val.{bool_byte}
use Rattle.bits.specs.Field.{field_of}
use Rattle.bits.proofs.FieldLaws.{bit_lt}
use Rattle.tlb.specs.Entries.{pair_size_of, page_size_of}
use Rattle.tlb.specs.Moves.{pairs}

-- a pair is at most 2^32 bytes, and at least 8192
pub pair_le : (mask : ℕ) → mask < 2 ^ 32 → pair_size_of mask ≤ 2 ^ 32
pair_le mask h = omega (arith, or_lt 32 mask 0x1FFF h (omega arith))

pub pair_ge : (mask : ℕ) → 0x2000 ≤ pair_size_of mask
pair_ge mask = omega (arith, or_add_and mask 0x1FFF, and_le_l mask 0x1FFF)

pub page_ge : (mask : ℕ) → 0x1000 ≤ page_size_of mask
unfolding page_size_of
page_ge mask = omega (arith, pair_ge mask)

-- n pairs of bits are below 4 ^ n
pairs_lt : (n x : ℕ) → pairs n x < 4 ^ n
unfolding pairs
pairs_lt zero x = omega arith
pairs_lt (suc n) x = omega (arith, pow-suc 4 n, pairs_lt n (x / 4))

pub pairs_small : (n x : ℕ) → n ≤ 6 → pairs n x < 4096
pairs_small n x h = lt_of_lt_of_le (pairs_lt n x) (pow-le-pow_right {n = 4} (omega arith) h)

-- 01 in each of n pairs
abbrev lowers : ℕ → ℕ
lowers zero = 0
lowers (suc n) = lowers n * 4 + 1

-- the upper bits of x's lowest n pairs, each at the place of its lower bit
abbrev dropped : ℕ → ℕ → ℕ
dropped n x = bit_and (x / 2) (lowers n)

dropped_more : (n x : ℕ) → dropped (suc n) x ≡ dropped n (x / 4) * 2 ^ 2 + field_of x 1 1
dropped_more n x =
    let parts : x / 2 ≡ x / 4 / 2 * 2 ^ 2 + x / 2 % 2 ^ 2 = omega arith in
    ap (λ (y : ℕ). bit_and y (lowers (suc n))) parts
    ∙ and_block 2 (x / 4 / 2) (lowers n) (x / 2 % 2 ^ 2) 1 (omega arith) (omega arith)
    ∙ omega (arith, and_mask (x / 2 % 2 ^ 2) 1)

-- at both places they are the pairs, however many
pairs_joined : (n x : ℕ) → bit_or (dropped n x * 2) (dropped n x) ≡ pairs n x
unfolding pairs
pairs_joined zero x = ap (λ (y : ℕ). bit_or (y * 2) y) (and_zero_r (x / 2))
pairs_joined (suc n) x =
    let d : ℕ = dropped n (x / 4) in
    let f : ℕ = field_of x 1 1 in
    let up : dropped (suc n) x * 2 ≡ d * 2 * 2 ^ 2 + f * 2 = omega (arith, dropped_more n x) in
    ap₂ bit_or up (dropped_more n x)
    ∙ or_block 2 (d * 2) d (f * 2) f (omega (arith, bit_lt x 1)) (omega (arith, bit_lt x 1))
    ∙ omega (arith, pairs_joined n (x / 4), or_shifted f 1 f (bit_lt x 1))

-- a page mask has its pairs from bit 13 up: of six, the upper bits are those under 0155_4000
abbrev upper : ℕ → ℕ → ℕ
upper n mask = bit_and mask (lowers n * 2 ^ 14)

upper_is : (n mask : ℕ) → upper n mask ≡ dropped n (mask / 2 ^ 13) * 2 ^ 14
upper_is n mask =
    let parts : mask ≡ mask / 2 ^ 13 / 2 * 2 ^ 14 + mask % 2 ^ 14 = omega arith in
    ap₂ bit_and parts (sym (add-zero (lowers n * 2 ^ 14)))
    ∙ and_block 14 (mask / 2 ^ 13 / 2) (lowers n) (mask % 2 ^ 14) 0 (omega arith) (omega arith)
    ∙ omega (arith, and_zero_r (mask % 2 ^ 14))

-- joined with themselves moved down one place they are the pairs
pub mask_joined : (n mask : ℕ) → bit_or (upper n mask) (upper n mask / 2) ≡ pairs n (mask / 2 ^ 13) * 2 ^ 13
mask_joined n mask =
    let d : ℕ = dropped n (mask / 2 ^ 13) in
    let above : upper n mask ≡ d * 2 * 2 ^ 13 + 0 = omega (arith, upper_is n mask) in
    let below : upper n mask / 2 ≡ d * 2 ^ 13 + 0 = omega (arith, upper_is n mask) in
    ap₂ bit_or above below
    ∙ or_block 13 (d * 2) d 0 0 (omega arith) (omega arith)
    ∙ omega (arith, pairs_joined n (mask / 2 ^ 13))

-- a flag as a number
pub bool_lt : (b : Bool) → bool_byte b < 2
bool_lt true = omega arith
bool_lt false = omega arith
