-- The entry that a probe finds is the lowest that matches, and `jtlb_has_match` agrees with the lookup.
use Rattle.std.proofs.Common.{◌≡◌, refl, sym, ℕ, zero, suc, ◌-◌, ◌<◌, ◌≤◌, Bool, true, false, cond, List, [], ◌∷◌, length, get_or, ltb, ltb-false, ltb-true, Err, arith}
use native.Mathlib.Nat.{le_of_suc-le-suc, not-suc-le-zero, sub-zero}
use Rattle.std.proofs.lemmas.Bool.{false≢true, true≢false}
use Rattle.tlb.specs.declared.entries.Entry.{Entry}
use Rattle.tlb.specs.declared.entries.TlbFault.TheVariants.{Refill}
use Rattle.tlb.specs.declared.table.Tlb.{Tlb}
use Rattle.tlb.specs.Entries.{matches_of, entry_answer}
use Rattle.tlb.specs.Table.{with_vpn2, entry_at, matching, head_of, several}
use Rattle.tlb.specs.Lookup.{shut_down, lookup_answer, lookup_table}
use Rattle.tlb.specs.Micro.{lowest, has_match_of}
use Rattle.tlb.proofs.Looking.{below, is_shut, none_answers, one_answers, several_shuts}

-- a list of one is its head
the_only : (l : List ℕ) → several l ≡ false → head_of l < 32 → l ≡ head_of l ∷ []
the_only [] e h = absurd (omega arith)
the_only (i ∷ []) e h = refl
the_only (i ∷ j ∷ is) e h = absurd (true≢false e)

module _ (v asid : ℕ) where
  abbrev at : List Entry → ℕ → Bool
  at es n = matches_of (get_or es n (with_vpn2 0)) v asid

  -- the first number of the list is that of the first entry that matches
  record First (es : List Entry) (i j : ℕ) : Type 0 where
    from : i ≤ j
    hit : at es (j - i) ≡ true
    before : (n : ℕ) → n < j - i → at es n ≡ false

  first_is : (es : List Entry) (i j : ℕ) (js : List ℕ) → matching es v asid i ≡ j ∷ js → First es i j
  unfolding matching
  first_is [] i j js e = let z : ◌≡◌ {A = ℕ} 0 1 = cc in absurd (omega arith)
  first_is (x ∷ es) i j js e = go (matches_of x v asid) refl e (first_is es (suc i) j js)
    where
      go : (b : Bool) → matches_of x v asid ≡ b
          → cond b (i ∷ matching es v asid (suc i)) (matching es v asid (suc i)) ≡ j ∷ js
          → (matching es v asid (suc i) ≡ j ∷ js → First es (suc i) j) → First (x ∷ es) i j
      go true m p rest =
          let q : i ≡ j = cc in
          let z : j - i ≡ 0 = omega arith in
          record { from = omega arith; hit = rw z m; before = λ n h. absurd (omega arith) }
      go false m p rest =
          let r : First es (suc i) j = rest p in
          let z : j - i ≡ suc (j - suc i) = omega (arith, r.from) in
          record { from = omega (arith, r.from); hit = rw z r.hit; before = λ n h. earlier n (omega arith) r.before }
        where
          earlier : (n : ℕ) → n < suc (j - suc i) → ((n : ℕ) → n < j - suc i → at es n ≡ false) → at (x ∷ es) n ≡ false
          earlier zero h b = m
          earlier (suc n) h b = b n (le_of_suc-le-suc h)

  -- an empty list means that no entry matches
  none_is : (es : List Entry) (i : ℕ) → matching es v asid i ≡ [] → (n : ℕ) → n < length es → at es n ≡ false
  unfolding matching
  none_is [] i e n h = absurd (not-suc-le-zero h)
  none_is (x ∷ es) i e n h = go (matches_of x v asid) refl e n h (none_is es (suc i))
    where
      go : (b : Bool) → matches_of x v asid ≡ b → cond b (i ∷ matching es v asid (suc i)) (matching es v asid (suc i)) ≡ []
          → (n : ℕ) → n < suc (length es)
          → (matching es v asid (suc i) ≡ [] → (n : ℕ) → n < length es → at es n ≡ false) → at (x ∷ es) n ≡ false
      go true m p n h rest = let z : ◌≡◌ {A = ℕ} 0 1 = cc in absurd (omega arith)
      go false m p zero h rest = m
      go false m p (suc n) h rest = rest p n (le_of_suc-le-suc h)

-- what a probe or a fill finds below 32 matches, and no lower entry does
module _ (t : Tlb) (v asid : ℕ) where
  by_list : (l : List ℕ) → matching t.entries v asid 0 ≡ l → head_of l < 32
      → (matches_of (entry_at t (head_of l)) v asid ≡ true)
      × ((n : ℕ) → n < head_of l → matches_of (entry_at t n) v asid ≡ false)
  by_list [] e h = absurd (omega arith)
  by_list (i ∷ []) e h = let f = first_is v asid t.entries 0 i [] e in (rw (sub-zero i) at f.hit, λ n p. f.before n (omega arith))
  by_list (i ∷ j ∷ is) e h =
      let f = first_is v asid t.entries 0 i (j ∷ is) e in (rw (sub-zero i) at f.hit, λ n p. f.before n (omega arith))

  pub lowest_matches : lowest t v asid < 32
      → (matches_of (entry_at t (lowest t v asid)) v asid ≡ true)
      × ((n : ℕ) → n < lowest t v asid → matches_of (entry_at t n) v asid ≡ false)
  unfolding lowest
  lowest_matches h = by_list (matching t.entries v asid 0) refl h

  nothing_by : length t.entries ≡ 32 → (l : List ℕ) → matching t.entries v asid 0 ≡ l → 32 ≤ head_of l
      → (n : ℕ) → n < 32 → matches_of (entry_at t n) v asid ≡ false
  nothing_by len [] e h n p = none_is v asid t.entries 0 e n (omega arith)
  nothing_by len (i ∷ []) e h n p = absurd (omega (arith, below t.entries v asid 0 i [] e))
  nothing_by len (i ∷ j ∷ is) e h n p = absurd (omega (arith, below t.entries v asid 0 i (j ∷ is) e))

  -- and at 32 no entry matches
  pub lowest_none : length t.entries ≡ 32 → 32 ≤ lowest t v asid → (n : ℕ) → n < 32
      → matches_of (entry_at t n) v asid ≡ false
  unfolding lowest
  lowest_none len h = nothing_by len (matching t.entries v asid 0) refl h

  -- `jtlb_has_match` says no exactly where the table is shut down or no entry matches: then the lookup gives Refill and
  -- leaves the table alone
  pub no_match_refill : length t.entries ≡ 32 → has_match_of t v asid ≡ false → (store : Bool)
      → (lookup_answer t v asid store ≡ Err Refill) × (lookup_table t v asid ≡ t)
  unfolding has_match_of lowest
  no_match_refill len e store = go t.shutdown refl e
    where
      empty : t.shutdown ≡ false → (l : List ℕ) → matching t.entries v asid 0 ≡ l → 32 ≤ head_of l
          → (lookup_answer t v asid store ≡ Err Refill) × (lookup_table t v asid ≡ t)
      empty s [] q h = let r = none_answers t v asid store s q in (sym r.0, sym r.1)
      empty s (i ∷ []) q h = absurd (omega (arith, below t.entries v asid 0 i [] q))
      empty s (i ∷ j ∷ is) q h = absurd (omega (arith, below t.entries v asid 0 i (j ∷ is) q))

      go : (b : Bool) → t.shutdown ≡ b → cond b false (ltb (head_of (matching t.entries v asid 0)) 32) ≡ false
          → (lookup_answer t v asid store ≡ Err Refill) × (lookup_table t v asid ≡ t)
      go true s p = let r = is_shut t v asid store s in (sym r.0, sym r.1)
      go false s p = empty s (matching t.entries v asid 0) refl (ltb-false _ _ p)

  is_open : has_match_of t v asid ≡ true → (t.shutdown ≡ false) × (lowest t v asid < 32)
  unfolding has_match_of
  is_open e = go t.shutdown refl e
    where
      go : (b : Bool) → t.shutdown ≡ b → cond b false (ltb (lowest t v asid) 32) ≡ true
          → (t.shutdown ≡ false) × (lowest t v asid < 32)
      go true s p = absurd (false≢true p)
      go false s p = (s, ltb-true _ _ p)

  -- where it says yes, the lookup gives the answer of the only entry that matches
  pub match_answers : has_match_of t v asid ≡ true → several (matching t.entries v asid 0) ≡ false → (store : Bool)
      → (lookup_answer t v asid store ≡ entry_answer (lowest t v asid) (entry_at t (lowest t v asid)) v store) × (lookup_table t v asid ≡ t)
  unfolding lowest
  match_answers e m store =
      let o = is_open e in
      let r = one_answers t v asid store o.0 _ (the_only _ m o.1) in
      (sym r.0, sym r.1)

  -- or, where more than one matches, shuts the table down
  pub second_match_shuts : has_match_of t v asid ≡ true → several (matching t.entries v asid 0) ≡ true → (store : Bool)
      → (lookup_answer t v asid store ≡ Err Refill) × (lookup_table t v asid ≡ shut_down t)
  second_match_shuts e m store =
      let r = several_shuts t v asid store (is_open e).0 m in
      (sym r.0, sym r.1)
