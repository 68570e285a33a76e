-- The definitions by bits have the manual's reading at each of its page sizes.
use mathlib.Core.Path.{◌≡◌, refl, ap, ap₂, sym, ◌∙◌}
use mathlib.Core.Bool.{Bool, true, false, cond, ◌&&◌}
use Prim.Native.Nat.{ℕ, zero, suc, ◌+◌, ◌-◌, ◌*◌, ◌/◌, ◌%◌, ◌^◌, ◌<◌, ◌≤◌}
use native.Mathlib.Nat.{mul-mod_left, add-mul, zero-mul, one-mul, div-one, add-zero, zero-mod, mul_assoc, mod-lt, mod-eq_of_lt, div-add-mod', div-mul-le_self, lt-div-mul-add, div-eq_of_lt-le}
use native.Mathlib.Decide.{dec_le, dec_lt}
use native.Mathlib.Omega.{arith}
use lib.Arith.{digits_lt}
use lib.Bits.{bit_and, and_high}
use lib.Dec.{eqb, leb, ltb}
use lib.Pow.{pow_pos, pow-add, high_ones, shr-shr, shr_lt, field, mod-pow-add}
use borrow.Author.Tests.{eq-eqb, ne_eqb, eqb-true, le-leb, lt-leb, lt-ltb, le-ltb}
use Rattle.bits.specs.Field.{field_of}
use Rattle.bits.specs.Mask.{merged}
use Rattle.bits.specs.Extension.{low32_of}
use Rattle.bits.proofs.FieldLaws.{field_lt}
use Rattle.bits.proofs.MaskLaws.{merged_low, merged_shift}
use Rattle.bits.proofs.Tables.{at_each}
use Rattle.cop0.specs.declared.registers.Cop0.{Cop0}
use Rattle.cop0.specs.Registers.{EntryLo0, EntryLo1, PageMask, EntryHi}
use Rattle.cop0.specs.File.{read_of}
use Rattle.tlb.specs.declared.entries.Entry.{Entry}
use Rattle.tlb.specs.declared.entries.PageEntry.{PageEntry}
use Rattle.tlb.specs.Entries.{vpn2_of, matches_of, page_size_of, half_of, physical_of, half_answer, entry_answer}
use Rattle.tlb.specs.Moves.{pairs, canonical_of, written_mask, entry_of}
use Rattle.tlb.specs.Manual.{size_at, mask_at, matches_at, half_at, address_at, page_answer_at, entry_of_size}

-- the page sizes of table 5-7
pub size_is : (k : ℕ) → k ≤ 6 → page_size_of (mask_at k) ≡ size_at k
unfolding page_size_of
size_is k h = eqb-true _ _ (at_each 7 (λ k. eqb (page_size_of (mask_at k)) (size_at k)) refl k (omega arith))

-- a multiple of p is the address rounded down exactly where the address lies within p of it
in_range : (a base p : ℕ) → 0 < p → base % p ≡ 0 → eqb (a / p * p) base ≡ (leb base a && ltb a (base + p))
in_range a base p hp m = go (dec_le base a) (dec_lt a (base + p))
  where
    whole : base / p * p ≡ base
    whole = omega (arith, div-add-mod' base p)

    go : Dec (base ≤ a) → Dec (a < base + p) → eqb (a / p * p) base ≡ (leb base a && ltb a (base + p))
    go (yes l) (yes u) =
        let q : a / p ≡ base / p = div-eq_of_lt-le p (omega (arith, whole))
        (omega (arith, whole, add-mul (base / p) 1 p, one-mul p)) in
        simp (eq-eqb (a / p * p) base (ap (λ (x : ℕ). x * p) q ∙ whole), le-leb base a l, lt-ltb a (base + p) u)
    go (yes l) (no u) =
        simp (
          ne_eqb (a / p * p) base (λ e. omega (arith, lt-div-mul-add {a = a} hp)),
          le-leb base a l,
          le-ltb a (base + p) (omega arith),
        )
    go (no l) u =
        simp (ne_eqb (a / p * p) base (λ e. omega (arith, div-mul-le_self a p)), lt-leb base a (omega arith))

-- VPN2 outside the mask is the address rounded down to the pair
vpn2_is : (k v : ℕ) → k ≤ 6 → vpn2_of (mask_at k) v ≡ field_of v 39 0 / 2 ^ (13 + 2 * k) * 2 ^ (13 + 2 * k)
vpn2_is k v h =
    let f : ℕ = field_of v 39 13 in
    let up : 2 * k + 13 ≡ 13 + 2 * k = omega arith in
    let m : mask_at k ≡ (2 ^ (2 * k) - 1) * 2 ^ 13 = ap (λ (j : ℕ). 2 ^ j - 2 ^ 13) (sym up) ∙ high_ones (2 * k) 13 in
    let a : f ≡ field_of v 39 0 / 2 ^ 13 = sym (ap (λ (x : ℕ). x % 2 ^ 40 / 2 ^ 13) (div-one v) ∙ field v 27 13) in
    ap (λ (x : ℕ). merged x 0 (f * 2 ^ 13)) m
    ∙ merged_shift 13 51 (2 ^ (2 * k) - 1) 0 f
    ∙ ap (λ (x : ℕ). x * 2 ^ 13)
    (merged_low 51 (2 * k) 0 f (omega arith) (omega arith)
    ∙ ap (λ (x : ℕ). f / 2 ^ (2 * k) * 2 ^ (2 * k) + x) (zero-mod (2 ^ (2 * k)))
    ∙ add-zero (f / 2 ^ (2 * k) * 2 ^ (2 * k)))
    ∙ mul_assoc (f / 2 ^ (2 * k)) (2 ^ (2 * k)) (2 ^ 13)
    ∙ ap₂ (λ (x y : ℕ). x * y)
    (ap (λ (x : ℕ). x / 2 ^ (2 * k)) a ∙ shr-shr (field_of v 39 0) 13 (2 * k))
    (sym (pow-add 2 (2 * k) 13) ∙ ap (λ (j : ℕ). 2 ^ j) up)

-- a pair is two pages
two_pages : (k : ℕ) → 2 ^ (13 + 2 * k) ≡ 2 * size_at k
two_pages k =
    let e : 13 + 2 * k ≡ 1 + (12 + 2 * k) = omega arith in
    ap (λ (j : ℕ). 2 ^ j) e ∙ pow-add 2 1 (12 + 2 * k)

-- the bit just above the offset is 0 in the first half of a pair
first_half : (j v : ℕ) → eqb (bit_and v (2 ^ j)) 0 ≡ ltb (v % (2 * 2 ^ j)) (2 ^ j)
first_half j v =
    rw (one, two) (go (v / 2 ^ j % 2) (omega arith))
  where
    one : bit_and v (2 ^ j) ≡ v / 2 ^ j % 2 * 2 ^ j
    one = ap (bit_and v) (sym top) ∙ and_high v 1 j
      where
        top : 2 ^ (1 + j) - 2 ^ j ≡ 2 ^ j
        top = omega (arith, pow-add 2 1 j)

    two : v % (2 * 2 ^ j) ≡ v / 2 ^ j % 2 * 2 ^ j + v % 2 ^ j
    two = ap (λ (m : ℕ). v % m) (sym (pow-add 2 1 j)) ∙ mod-pow-add v 1 j

    go : (b : ℕ) → b < 2 → eqb (b * 2 ^ j) 0 ≡ ltb (b * 2 ^ j + v % 2 ^ j) (2 ^ j)
    go zero hb = simp (
      eq-eqb (0 * 2 ^ j) 0 (zero-mul (2 ^ j)),
      lt-ltb (0 * 2 ^ j + v % 2 ^ j) (2 ^ j) (omega (arith, zero-mul (2 ^ j), mod-lt v (pow_pos j))),
    )
    go (suc zero) hb = simp (
      ne_eqb (1 * 2 ^ j) 0 (λ e. omega (arith, one-mul (2 ^ j), pow_pos j)),
      le-ltb (1 * 2 ^ j + v % 2 ^ j) (2 ^ j) (omega (arith, one-mul (2 ^ j))),
    )
    go (suc (suc b)) hb = absurd (omega arith)

-- an entry of page size k, whose base is a multiple of the pair, as every write makes it
module _ (k : ℕ) (h : k ≤ 6) (e : Entry) (mask : e.page_mask ≡ mask_at k) where
  -- a match means that the address lies in the pair's range of the entry's region
  pub match_is : e.vpn2 % (2 * size_at k) ≡ 0 → (v asid : ℕ) → matches_of e v asid ≡ matches_at k e v asid
  unfolding matches_of
  match_is m v asid =
      rw (
        mask,
        vpn2_is k v h,
        two_pages k,
        in_range (field_of v 39 0) e.vpn2 (2 * size_at k)
            (omega (arith, pow_pos (12 + 2 * k))) m,
      )

  -- the half is the page of the pair that the address lies in
  pub half_is : (v : ℕ) → half_of e v ≡ half_at k e v
  unfolding half_of
  half_is v = rw (mask, size_is k h, first_half (12 + 2 * k) v)

-- the address is the frame's base plus the offset within the page; frame numbers have 20 bits
pub address_is : (k pfn v : ℕ) → k ≤ 6 → pfn < 2 ^ 20 → physical_of pfn (page_size_of (mask_at k) - 1) v ≡ address_at k pfn v
address_is k pfn v h hp =
    let j : ℕ = 12 + 2 * k in
    let up : 32 - j + j ≡ 32 = omega arith in
    let word : 2 ^ (32 - j) * 2 ^ j ≡ 2 ^ 32 = sym (pow-add 2 (32 - j) j) ∙ ap (λ (i : ℕ). 2 ^ i) up in
    let small : pfn * 4096 < 2 ^ (32 - j + j) = rw up (omega arith) in
    ap (λ (s : ℕ). low32_of (merged (s - 1) v (pfn * 4096))) (size_is k h)
    ∙ ap low32_of (merged_low 64 j v (pfn * 4096) (omega arith) (omega arith))
    ∙ mod-eq_of_lt (omega (arith, word, digits_lt (shr_lt (32 - j) j small) (mod-lt v (pow_pos j))))

page_is : (k : ℕ) → k ≤ 6 → (i : ℕ) (p : PageEntry) → p.pfn < 2 ^ 20 → (v : ℕ) (store : Bool)
    → half_answer i p (page_size_of (mask_at k) - 1) v store ≡ page_answer_at k i p v store
unfolding half_answer
page_is k h i p hp v store = rw (address_is k p.pfn v h hp)

-- what a matching entry answers is what the page that the address lies in answers
pub answer_is : (k : ℕ) → k ≤ 6 → (i : ℕ) (e : Entry) → e.page_mask ≡ mask_at k → e.lo0.pfn < 2 ^ 20 → e.lo1.pfn < 2 ^ 20
    → (v : ℕ) (store : Bool) → entry_answer i e v store ≡ page_answer_at k i (half_at k e v) v store
unfolding entry_answer
answer_is k h i e m h₀ h₁ v store =
    rw (half_is k h e m v, m) (page_is k h i (half_at k e v) (either (ltb (v % (2 * size_at k)) (size_at k))) v store)
  where
    either : (b : Bool) → (cond b e.lo0 e.lo1).pfn < 2 ^ 20
    either true = h₀
    either false = h₁

-- the masks of table 5-7 are canonical: a write keeps each of them as it is
pub canonical_at : (k : ℕ) → k ≤ 6 → canonical_of (mask_at k) ≡ mask_at k
unfolding pairs
canonical_at k h = eqb-true _ _ (at_each 7 (λ k. eqb (canonical_of (mask_at k)) (mask_at k)) refl k (omega arith))

-- so what a write makes with PageMask at size k is the manual's entry, and matches and answers as the manual has it
module _ (k : ℕ) (h : k ≤ 6) (c : Cop0) (size : read_of c PageMask ≡ mask_at k) where
  mask_is : written_mask c ≡ mask_at k
  mask_is = ap canonical_of size ∙ canonical_at k h

  pub written_is : entry_of c ≡ entry_of_size k (read_of c EntryHi) (read_of c EntryLo0) (read_of c EntryLo1)
  unfolding entry_of
  written_is = rw (mask_is, vpn2_is k (read_of c EntryHi) h, two_pages k)

  -- of page size k
  of_size : (entry_of c).page_mask ≡ mask_at k
  unfolding entry_of
  of_size = mask_is

  -- the base is a multiple of the pair
  at_pair : (entry_of c).vpn2 % (2 * size_at k) ≡ 0
  at_pair = ap (λ (e : Entry). e.vpn2 % (2 * size_at k)) written_is ∙ mul-mod_left _ (2 * size_at k)

  pub written_matches : (v asid : ℕ) → matches_of (entry_of c) v asid ≡ matches_at k (entry_of c) v asid
  written_matches = match_is k h (entry_of c) of_size at_pair

  -- frame numbers have 20 bits
  frame₀ : (entry_of c).lo0.pfn < 2 ^ 20
  unfolding entry_of
  frame₀ = field_lt (read_of c EntryLo0) 25 6

  frame₁ : (entry_of c).lo1.pfn < 2 ^ 20
  unfolding entry_of
  frame₁ = field_lt (read_of c EntryLo1) 25 6

  pub written_answers : (i v : ℕ) (store : Bool)
      → entry_answer i (entry_of c) v store ≡ page_answer_at k i (half_at k (entry_of c) v) v store
  written_answers i = answer_is k h i (entry_of c) of_size frame₀ frame₁
