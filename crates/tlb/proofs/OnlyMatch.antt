-- Which entries match an address: `matching` has exactly the numbers below 32 whose entries match, rising. Where it has one, no other
-- entry matches; where it has two or more, two different entries do.
use mathlib.Core.Path.{◌≡◌, refl, ap, sym, ◌∙◌}
use mathlib.Core.Bool.{Bool, true, false, ◌&&◌, ◌||◌}
use mathlib.Core.List.{List, [], ◌∷◌}
use Prim.Native.Nat.{ℕ, suc, ◌+◌, ◌-◌, ◌<◌, ◌≤◌}
use native.Mathlib.Nat.{sub-zero}
use native.Mathlib.Decide.{dec_le, dec_lt}
use native.Mathlib.Omega.{arith}
use lib.Dec.{eqb, leb, ltb}
use lib.ListN.{length, get_or}
use borrow.Author.Tests.{eq-eqb, ne_eqb, eqb-true, le-ltb, lt-ltb, ltb-true, le-leb, lt-leb, leb-true}
use Rattle.bits.proofs.Tables.{and_left, and_right}
use Rattle.cop0.specs.Registers.{among}
use Rattle.tlb.specs.declared.entries.Entry.{Entry}
use Rattle.tlb.specs.declared.table.Tlb.{Tlb}
use Rattle.tlb.specs.Entries.{matches_of}
use Rattle.tlb.specs.Table.{with_vpn2, entry_at, matching, rising_from}

module _ (v asid : ℕ) where
  abbrev hit : List Entry → ℕ → Bool
  hit es n = matches_of (get_or es n (with_vpn2 0)) v asid

  -- where the first entry has number i: n is listed if it is one of theirs and its entry matches
  from_first : (es : List Entry) (i n : ℕ)
      → among (matching es v asid i) n ≡ (leb i n && (ltb n (i + length es) && hit es (n - i)))
  unfolding matching among
  from_first [] i n = go (dec_le i n)
    where
      go : Dec (i ≤ n) → false ≡ (leb i n && (ltb n (i + 0) && hit [] (n - i)))
      go (yes h) = rw (le-leb i n h, le-ltb n (i + 0) (omega arith))
      go (no h) = rw (lt-leb i n (omega arith))
  from_first (e ∷ es) i n = go (matches_of e v asid) refl (dec_lt n i) (dec_lt i n) (from_first es (suc i) n)
    where
      -- the entries after the first
      later : i < n
          → (leb (suc i) n && (ltb n (suc i + length es) && hit es (n - suc i)))
          ≡ (leb i n && (ltb n (i + suc (length es)) && hit (e ∷ es) (n - i)))
      later k =
          let down : n - i ≡ suc (n - suc i) = omega arith in
          let end : i + suc (length es) ≡ suc i + length es = omega arith in
          rw (down, end, le-leb (suc i) n k, le-leb i n (omega arith))

      -- and the first
      first : {b : Bool} → matches_of e v asid ≡ b → n ≡ i → (leb i n && (ltb n (i + suc (length es)) && hit (e ∷ es) (n - i))) ≡ b
      first m z =
          let none : n - i ≡ 0 = omega arith in
          rw (none, le-leb i n (omega arith), lt-ltb n (i + suc (length es)) (omega arith)) m

      go : (b : Bool) → matches_of e v asid ≡ b → Dec (n < i) → Dec (i < n)
          → among (matching es v asid (suc i)) n ≡ (leb (suc i) n && (ltb n (suc i + length es) && hit es (n - suc i)))
          → among (matching (e ∷ es) v asid i) n ≡ (leb i n && (ltb n (i + suc (length es)) && hit (e ∷ es) (n - i)))
      go true m (yes h) k rest = rw (m, ne_eqb n i (λ q. omega arith), lt-leb i n h) (rest ∙ rw (lt-leb (suc i) n (omega arith)))
      go false m (yes h) k rest = rw (m, lt-leb i n h) (rest ∙ rw (lt-leb (suc i) n (omega arith)))
      go true m (no h) (yes k) rest = rw (m, ne_eqb n i (λ q. omega arith)) (rest ∙ later k)
      go false m (no h) (yes k) rest = rw m (rest ∙ later k)
      go true m (no h) (no k) rest =
          let z : n ≡ i = omega arith in
          rw (m, eq-eqb n i z) (sym (first m z))
      go false m (no h) (no k) rest =
          let z : n ≡ i = omega arith in
          rw m (rest ∙ rw (lt-leb (suc i) n (omega arith)) (sym (first m z)))

  rises : (es : List Entry) (i b : ℕ) → b ≤ i → rising_from b (matching es v asid i) ≡ true
  unfolding matching rising_from
  rises [] i b h = refl
  rises (e ∷ es) i b h = go (matches_of e v asid) refl (λ c l. rises es (suc i) c l)
    where
      go : (m : Bool) → matches_of e v asid ≡ m → ((c : ℕ) → c ≤ suc i → rising_from c (matching es v asid (suc i)) ≡ true)
          → rising_from b (matching (e ∷ es) v asid i) ≡ true
      go true m rest = rw (m, le-leb b i h) (rest (suc i) (omega arith))
      go false m rest = rw m (rest b (omega arith))

or_false : (b : Bool) → (b || false) ≡ true → b ≡ true
or_false true e = refl
or_false false e = e

or_true : (b : Bool) → (b || true) ≡ true
or_true true = refl
or_true false = refl

module _ (t : Tlb) (long : length t.entries ≡ 32) (v asid : ℕ) where
  abbrev pub numbers : List ℕ
  numbers = matching t.entries v asid 0

  abbrev pub matched : ℕ → Bool
  matched n = matches_of (entry_at t n) v asid

  pub listed : (n : ℕ) → among numbers n ≡ (ltb n 32 && matched n)
  listed n =
      let k : 0 + length t.entries ≡ 32 = omega (arith, long) in
      from_first v asid t.entries 0 n ∙ rw (le-leb 0 n (omega arith), k, sub-zero n)

  pub rising : rising_from 0 numbers ≡ true
  rising = rises v asid t.entries 0 0 (omega arith)

  -- a listed number is below 32, and its entry matches
  is_match : (n : ℕ) → among numbers n ≡ true → (n < 32) × (matched n ≡ true)
  is_match n h =
      let both : (ltb n 32 && matched n) ≡ true = sym (listed n) ∙ h in
      (ltb-true n 32 (and_left (ltb n 32) (matched n) both), and_right (ltb n 32) (matched n) both)

  -- one: it matches, and no other entry does
  pub only_one : (i : ℕ) → numbers ≡ i ∷ []
      → (i < 32) × (matched i ≡ true) × ((n : ℕ) → n < 32 → matched n ≡ true → n ≡ i)
  unfolding among
  only_one i e =
      let m = is_match i (rw (e, eq-eqb i i refl)) in (
        m.0,
        m.1,
        λ n h p. eqb-true n i (or_false (eqb n i) (sym (ap (λ (l : List ℕ). among l n) e) ∙ listed n ∙ rw (lt-ltb n 32 h) p)),
      )

  -- two or more: two different entries match
  pub two_match : (i j : ℕ) (is : List ℕ) → numbers ≡ i ∷ j ∷ is
      → (i < j) × (j < 32) × (matched i ≡ true) × (matched j ≡ true)
  unfolding among rising_from
  two_match i j is e =
      let up : rising_from 0 (i ∷ j ∷ is) ≡ true = ap (rising_from 0) (sym e) ∙ rising in
      let above : leb (suc i) j ≡ true = and_left (leb (suc i) j) _ (and_right (leb 0 i) _ up) in
      let first = is_match i (rw (e, eq-eqb i i refl)) in
      let second = is_match j (rw (e, eq-eqb j j refl) (or_true (eqb j i))) in
      (leb-true (suc i) j above, second.0, first.1, second.1)
