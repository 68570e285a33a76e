-- Laws of words merged under a mask.
use Rattle.std.proofs.Common.{◌≡◌, ℕ, zero, suc, ◌+◌, ◌-◌, ◌*◌, ◌/◌, ◌%◌, ◌^◌, ◌<◌, ◌≤◌, min, max, Bool, true, false, cond, eqb, sym, refl, ap, ◌∙◌, ap₂, lt_of_le_of_lt, mod-eq_of_lt, mul_assoc, mul_comm, suc-add, pow-suc, zero-add, mul-one, arith, pow_pos}
use native.Mathlib.Nat.{div-div-eq-div-mul, min-zero, max-zero, zero-max, min-eq_left, min-le_left, min-le_right}
use lib.Arith.{mod-mul}
use lib.Bits.{bit_and, bit_or, and_step, or_step, and_zero_l, and_zero_r, shifted_half, shifted_even, and_mask, and_block}
use Rattle.bits.specs.Mask.{merged_bits}

-- one bit: y's under the complement, x's under the mask
one_bit : (m x y : ℕ) → m < 2 → x < 2 → y < 2 → max (min y (1 - m)) (min x m) ≡ cond (eqb m 1) x y
one_bit zero x y hm hx hy = rw (min-zero x, min-eq_left {n = y} {m = 1} (omega arith)) (max-zero y)
one_bit (suc zero) x y hm hx hy = rw (min-zero y, min-eq_left {n = x} {m = 1} (omega arith)) (zero-max x)
one_bit (suc (suc m)) x y hm hx hy = omega arith

-- a number made of its half and its last bit, taken apart
half : (a b : ℕ) → b < 2 → (a * 2 + b) / 2 ≡ a
half a b h = omega arith

last : (a b : ℕ) → b < 2 → (a * 2 + b) % 2 ≡ b
last a b h = omega arith

and_half : (a b : ℕ) → bit_and a b / 2 ≡ bit_and (a / 2) (b / 2)
and_half a b =
    ap (λ (n : ℕ). n / 2) (and_step a b) ∙ half _ _ (lt_of_le_of_lt (min-le_left (a % 2) (b % 2)) (omega arith))

and_last : (a b : ℕ) → bit_and a b % 2 ≡ min (a % 2) (b % 2)
and_last a b =
    ap (λ (n : ℕ). n % 2) (and_step a b) ∙ last _ _ (lt_of_le_of_lt (min-le_left (a % 2) (b % 2)) (omega arith))

-- the complement's half and last bit
module _ (p m : ℕ) (h : m < p * 2) where
  not_half : (p * 2 - 1 - m) / 2 ≡ p - 1 - m / 2
  not_half = omega arith

  not_last : (p * 2 - 1 - m) % 2 ≡ 1 - m % 2
  not_last = omega arith

-- `(y & !m) | (x & m)` takes each bit from x or from y, at every width n
pub merges : (n m x y : ℕ) → m < 2 ^ n → x < 2 ^ n → y < 2 ^ n
    → bit_or (bit_and y (2 ^ n - 1 - m)) (bit_and x m) ≡ merged_bits n m x y
unfolding merged_bits
merges zero m x y hm hx hy =
    let ex : x ≡ 0 = omega arith in
    let ey : y ≡ 0 = omega arith in
    rw (ex, ey)
merges (suc n) m x y hm hx hy =
    let p : ℕ = 2 ^ n in
    let e : 2 ^ suc n ≡ p * 2 = pow-suc 2 n in
    let hm' : m < p * 2 = omega (arith, e) in
    let hx' : x < p * 2 = omega (arith, e) in
    let hy' : y < p * 2 = omega (arith, e) in
    or_step (bit_and y (2 ^ suc n - 1 - m)) (bit_and x m)
    ∙ rw (e, and_half y, and_half x m, and_last y, and_last x m, not_half p m hm', not_last p m hm')
    (ap₂ (λ (a b : ℕ). a * 2 + b)
    (merges n (m / 2) (x / 2) (y / 2) (omega arith) (omega arith) (omega arith))
    (one_bit (m % 2) (x % 2) (y % 2) (omega arith) (omega arith) (omega arith)))

pick_lt : (m x y : ℕ) → cond (eqb (m % 2) 1) (x % 2) (y % 2) < 2
pick_lt m x y = go (eqb (m % 2) 1)
  where
    go : (b : Bool) → cond b (x % 2) (y % 2) < 2
    go true = omega arith
    go false = omega arith

-- n merged bits are below 2 ^ n
pub merged_lt : (n m x y : ℕ) → merged_bits n m x y < 2 ^ n
unfolding merged_bits
merged_lt zero m x y = omega arith
merged_lt (suc n) m x y = omega (arith, pow-suc 2 n, merged_lt n (m / 2) (x / 2) (y / 2), pick_lt m x y)

-- the halves and the last bits of merged words
merged_half : (n m x y : ℕ) → merged_bits (suc n) m x y / 2 ≡ merged_bits n (m / 2) (x / 2) (y / 2)
unfolding merged_bits
merged_half n m x y = half (merged_bits n (m / 2) (x / 2) (y / 2)) _ (pick_lt m x y)

merged_last : (n m x y : ℕ) → merged_bits (suc n) m x y % 2 ≡ cond (eqb (m % 2) 1) (x % 2) (y % 2)
unfolding merged_bits
merged_last n m x y = last (merged_bits n (m / 2) (x / 2) (y / 2)) _ (pick_lt m x y)

bit_under : (m x y : ℕ) → m < 2 → min (cond (eqb m 1) x y) m ≡ min x m
bit_under zero x y h = min-zero y ∙ sym (min-zero x)
bit_under (suc zero) x y h = refl
bit_under (suc (suc m)) x y h = omega arith

-- under the mask stand x's bits
pub merged_under : (n m x y : ℕ) → m < 2 ^ n → bit_and (merged_bits n m x y) m ≡ bit_and x m
merged_under zero m x y h =
    let e : m ≡ 0 = omega arith in
    rw e (and_zero_r (merged_bits zero 0 x y) ∙ sym (and_zero_r x))
merged_under (suc n) m x y h =
    and_step (merged_bits (suc n) m x y) m
    ∙ ap₂ (λ (a b : ℕ). a * 2 + b)
    (ap (λ (z : ℕ). bit_and z (m / 2)) (merged_half n m x y)
    ∙ merged_under n (m / 2) (x / 2) (y / 2) (omega (arith, pow-suc 2 n)))
    (ap (λ (z : ℕ). min z (m % 2)) (merged_last n m x y) ∙ bit_under (m % 2) (x % 2) (y % 2) (omega arith))
    ∙ sym (and_step x m)

-- one bit: where w and y lie under m, so does what w takes from x or leaves of y
bit_kept : (m w x y : ℕ) → m < 2 → w < 2 → x < 2 → min w m ≡ w → min y m ≡ y → min (cond (eqb w 1) x y) m ≡ cond (eqb w 1) x y
bit_kept m zero x y hm hw hx ew ey = ey
bit_kept zero (suc zero) x y hm hw hx ew ey = absurd (omega (arith, ew, min-zero 1))
bit_kept (suc zero) (suc zero) x y hm hw hx ew ey = min-eq_left (omega arith)
bit_kept (suc (suc m)) (suc zero) x y hm hw hx ew ey = absurd (omega arith)
bit_kept m (suc (suc w)) x y hm hw hx ew ey = absurd (omega arith)

-- the half and the last bit of a word that lies under m
module _ (a m : ℕ) (e : bit_and a m ≡ a) where
  kept_half : bit_and (a / 2) (m / 2) ≡ a / 2
  kept_half = sym (and_half a m) ∙ ap (λ (z : ℕ). z / 2) e

  kept_last : min (a % 2) (m % 2) ≡ a % 2
  kept_last = sym (and_last a m) ∙ ap (λ (z : ℕ). z % 2) e

-- a merge under a mask that lies under m stays under m
pub merged_kept : (n m w x y : ℕ) → bit_and w m ≡ w → bit_and y m ≡ y → bit_and (merged_bits n w x y) m ≡ merged_bits n w x y
unfolding merged_bits
merged_kept zero m w x y ew ey = and_zero_l m
merged_kept (suc n) m w x y ew ey =
    and_step (merged_bits (suc n) w x y) m
    ∙ ap₂ (λ (a b : ℕ). a * 2 + b)
    (ap (λ (z : ℕ). bit_and z (m / 2)) (merged_half n w x y)
    ∙ merged_kept n (m / 2) (w / 2) (x / 2) (y / 2) (kept_half w m ew) (kept_half y m ey))
    (ap (λ (z : ℕ). min z (m % 2)) (merged_last n w x y)
    ∙ bit_kept (m % 2) (w % 2) (x % 2) (y % 2) (omega arith) (omega arith) (omega arith) (kept_last w m ew) (kept_last y m ey))

both_again : (a b : ℕ) → min (min a b) b ≡ min a b
both_again a b = min-eq_left (min-le_right a b)

-- a word under a mask is kept by the mask
pub under_again : (n m x : ℕ) → m < 2 ^ n → bit_and (bit_and x m) m ≡ bit_and x m
under_again zero m x h =
    let e : m ≡ 0 = omega arith in
    rw e (and_zero_r (bit_and x 0) ∙ sym (and_zero_r x))
under_again (suc n) m x h =
    and_step (bit_and x m) m
    ∙ ap₂ (λ (a b : ℕ). a * 2 + b)
    (ap (λ (z : ℕ). bit_and z (m / 2)) (and_half x m) ∙ under_again n (m / 2) (x / 2) (omega (arith, pow-suc 2 n)))
    (ap (λ (z : ℕ). min z (m % 2)) (and_last x m) ∙ both_again (x % 2) (m % 2))
    ∙ sym (and_step x m)

bit_again : (b : Bool) (x x' y : ℕ) → cond b x (cond b x' y) ≡ cond b x y
bit_again true x x' y = refl
bit_again false x x' y = refl

-- of two merges under one mask the later stands
pub merged_again : (n m x x' y : ℕ) → merged_bits n m x (merged_bits n m x' y) ≡ merged_bits n m x y
unfolding merged_bits
merged_again zero m x x' y = refl
merged_again (suc n) m x x' y =
    ap₂ (λ (a b : ℕ). a * 2 + b)
    (ap (merged_bits n (m / 2) (x / 2)) (merged_half n m x' y) ∙ merged_again n (m / 2) (x / 2) (x' / 2) (y / 2))
    (ap (cond (eqb (m % 2) 1) (x % 2)) (merged_last n m x' y) ∙ bit_again (eqb (m % 2) 1) (x % 2) (x' % 2) (y % 2))

-- under no mask stands y
pub merged_none : (n x y : ℕ) → y < 2 ^ n → merged_bits n 0 x y ≡ y
unfolding merged_bits
merged_none zero x y h = omega arith
merged_none (suc n) x y h =
    ap (λ (a : ℕ). a * 2 + y % 2) (merged_none n (x / 2) (y / 2) (omega (arith, pow-suc 2 n))) ∙ omega arith

merged_suc : (n m x y : ℕ)
    → merged_bits (suc n) m x y ≡ merged_bits n (m / 2) (x / 2) (y / 2) * 2 + cond (eqb (m % 2) 1) (x % 2) (y % 2)
unfolding merged_bits
merged_suc n m x y = refl

-- a mask of ones, one bit longer: p is 2 to the bits so far
low_step : (n p x y : ℕ) → 0 < p
    → merged_bits n (p - 1) (x / 2) (y / 2) ≡ y / 2 / p * p + x / 2 % p
    → merged_bits (suc n) (p * 2 - 1) x y ≡ y / (p * 2) * (p * 2) + x % (p * 2)
low_step n p x y h rest =
    let ones : (p * 2 - 1) / 2 ≡ p - 1 = omega arith in
    let one : (p * 2 - 1) % 2 ≡ 1 = omega arith in
    let q : y / 2 / p ≡ y / (p * 2) = div-div-eq-div-mul y 2 p ∙ ap (λ (d : ℕ). y / d) (mul_comm 2 p) in
    merged_suc n (p * 2 - 1) x y
    ∙ rw (ones, one, rest, q, mod-mul x {m = p} {c = 2} h (omega arith)) (omega (arith, mul_assoc (y / (p * 2)) p 2))

-- under the lowest j bits stand x's, and above them y's
pub merged_low : (n j x y : ℕ) → j ≤ n → y < 2 ^ n → merged_bits n (2 ^ j - 1) x y ≡ y / 2 ^ j * 2 ^ j + x % 2 ^ j
merged_low n zero x y h hy = merged_none n x y hy ∙ omega arith
merged_low zero (suc j) x y h hy = absurd (omega arith)
merged_low (suc n) (suc j) x y h hy =
    rw (pow-suc 2 j)
    (low_step n (2 ^ j) x y (pow_pos j) (merged_low n j (x / 2) (y / 2) (omega arith) (omega (arith, pow-suc 2 n))))

-- masks and words moved up by j places
pub merged_shift : (j n m x y : ℕ) → merged_bits (j + n) (m * 2 ^ j) (x * 2 ^ j) (y * 2 ^ j) ≡ merged_bits n m x y * 2 ^ j
merged_shift zero n m x y = rw (zero-add n, mul-one m, mul-one x, mul-one y) (sym (mul-one (merged_bits n m x y)))
merged_shift (suc j) n m x y =
    rw (suc-add j n)
    (merged_suc (j + n) (m * 2 ^ suc j) (x * 2 ^ suc j) (y * 2 ^ suc j)
    ∙ rw (
      shifted_half m j,
      shifted_half x j,
      shifted_half y j,
      shifted_even m j,
      shifted_even y j,
      merged_shift j n m x y,
      pow-suc 2 j,
    )
    (omega (arith, mul_assoc (merged_bits n m x y) (2 ^ j) 2)))

-- what is left of y when bits are cleared is no more than y
bit_left : (b : Bool) (y : ℕ) → cond b 0 y ≤ y
bit_left true y = omega arith
bit_left false y = omega arith

pub cleared_le : (n m y : ℕ) → merged_bits n m 0 y ≤ y
unfolding merged_bits
cleared_le zero m y = omega arith
cleared_le (suc n) m y = omega (arith, cleared_le n (m / 2) (y / 2), bit_left (eqb (m % 2) 1) (y % 2))

-- a mask of k ones keeps a number below 2 ^ k
pub under_ones : (k x : ℕ) → x < 2 ^ k → bit_and x (2 ^ k - 1) ≡ x
under_ones k x h = and_mask x k ∙ mod-eq_of_lt h

-- a mask keeps a number if it keeps the lowest k bits and those above
pub under_block : (k a b m n : ℕ) → b < 2 ^ k → n < 2 ^ k → bit_and a m ≡ a → bit_and b n ≡ b
    → bit_and (a * 2 ^ k + b) (m * 2 ^ k + n) ≡ a * 2 ^ k + b
under_block k a b m n hb hn ea eb = and_block k a m b n hb hn ∙ ap₂ (λ (x y : ℕ). x * 2 ^ k + y) ea eb
