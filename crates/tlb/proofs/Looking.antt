-- A lookup, by what the scan found.
use Rattle.std.proofs.Common.{◌≡◌, refl, ap, sym, ◌∙◌, ℕ, suc, ◌+◌, ◌<◌, Bool, true, false, cond, List, [], ◌∷◌, length, Option, Some, None, is_some, Err, ltb, lt-ltb, arith}
use Rattle.std.proofs.lemmas.Bool.{false≢true}
use Rattle.tlb.specs.declared.entries.Entry.{Entry}
use Rattle.tlb.specs.declared.entries.TlbFault.TheVariants.{Refill}
use Rattle.tlb.specs.declared.table.Tlb.{Tlb}
use Rattle.tlb.specs.declared.table.Hits.{Hits}
use Rattle.tlb.specs.declared.table.Hits.TheVariants as hits
use Rattle.tlb.specs.Entries.{matches_of, entry_answer}
use Rattle.tlb.specs.Table.{entry_at, matching, head_of, several, hits_of, first_of}
use Rattle.tlb.specs.Micro.{lowest}
use Rattle.tlb.specs.Lookup.{answer_by, shut_down, table_by, lookup_answer, lookup_table}

-- a match lies within the table
pub below : (es : List Entry) (v asid i j : ℕ) (js : List ℕ) → matching es v asid i ≡ j ∷ js → j < i + length es
unfolding matching
below [] v asid i j js e = let z : ◌≡◌ {A = ℕ} 0 1 = cc in omega arith
below (x ∷ es) v asid i j js e = go (matches_of x v asid) e (below es v asid (suc i) j js)
  where
    go : (b : Bool) → cond b (i ∷ matching es v asid (suc i)) (matching es v asid (suc i)) ≡ j ∷ js
        → (matching es v asid (suc i) ≡ j ∷ js → j < suc i + length es) → j < i + suc (length es)
    go true p rest = let q : i ≡ j = cc in omega arith
    go false p rest = omega (arith, rest p)

-- the matches, by what the scan gave
pub no_hit : (l : List ℕ) → hits.None ≡ hits_of l → l ≡ []
no_hit [] e = refl
no_hit (i ∷ []) e = cc
no_hit (i ∷ j ∷ is) e = cc

pub one_hit : (i : ℕ) (l : List ℕ) → hits.One i ≡ hits_of l → l ≡ i ∷ []
one_hit i [] e = cc
one_hit i (j ∷ []) e = cc
one_hit i (j ∷ k ∷ ks) e = cc

pub many_hits : (i : ℕ) (l : List ℕ) → hits.Several i ≡ hits_of l → several l ≡ true
many_hits i [] e = cc
many_hits i (j ∷ []) e = cc
many_hits i (j ∷ k ∷ ks) e = refl

first_head : {i : ℕ} (j : ℕ) (js : List ℕ) → Some i ≡ first_of (hits_of (j ∷ js)) → j ≡ i
first_head j [] e = cc
first_head j (k ∷ ks) e = cc

pub one_below : (es : List Entry) (v asid i : ℕ) → length es ≡ 32 → hits.One i ≡ hits_of (matching es v asid 0) → i < 32
one_below es v asid i len e = omega (arith, below es v asid 0 i [] (one_hit i _ e))

-- the lookup of a table, by its list of matches
module _ (t : Tlb) (v asid : ℕ) (store : Bool) where
  pub is_shut : t.shutdown ≡ true → (Err Refill ≡ lookup_answer t v asid store) × (t ≡ lookup_table t v asid)
  unfolding lookup_answer lookup_table
  is_shut e = simp e (refl, refl)

  module _ (is_open : t.shutdown ≡ false) where
    pub none_answers : matching t.entries v asid 0 ≡ [] → (Err Refill ≡ lookup_answer t v asid store) × (t ≡ lookup_table t v asid)
    unfolding lookup_answer lookup_table
    none_answers e = rw (e, is_open) (refl, refl)

    pub one_answers : (i : ℕ) → matching t.entries v asid 0 ≡ i ∷ []
        → (entry_answer i (entry_at t i) v store ≡ lookup_answer t v asid store) × (t ≡ lookup_table t v asid)
    unfolding lookup_answer lookup_table
    one_answers i e = rw (e, is_open) (refl, refl)

    pub several_shuts : several (matching t.entries v asid 0) ≡ true
        → (Err Refill ≡ lookup_answer t v asid store) × (shut_down t ≡ lookup_table t v asid)
    unfolding lookup_answer lookup_table
    several_shuts e =
        let m = go (matching t.entries v asid 0) e in
        simp is_open (m.0, m.1)
      where
        go : (l : List ℕ) → several l ≡ true → (Err Refill ≡ answer_by t l v store) × (shut_down t ≡ table_by t l)
        go [] e = absurd (false≢true e)
        go (i ∷ []) e = absurd (false≢true e)
        go (i ∷ j ∷ is) e = (refl, refl)

-- the lowest match, as the scan gave it
module _ (t : Tlb) (v asid : ℕ) (h : Hits) (scanned : h ≡ hits_of (matching t.entries v asid 0)) where
  pub lowest_is : (i : ℕ) → Some i ≡ first_of h → lowest t v asid ≡ i
  unfolding lowest
  lowest_is i e = go (matching t.entries v asid 0) (e ∙ ap first_of scanned)
    where
      go : (l : List ℕ) → Some i ≡ first_of (hits_of l) → head_of l ≡ i
      go [] e = cc
      go (j ∷ []) e = cc
      go (j ∷ k ∷ ks) e = cc

  pub lowest_is_32 : None ≡ first_of h → lowest t v asid ≡ 32
  unfolding lowest
  lowest_is_32 e = go (matching t.entries v asid 0) (e ∙ ap first_of scanned)
    where
      go : (l : List ℕ) → ◌≡◌ {A = Option ℕ} None (first_of (hits_of l)) → head_of l ≡ 32
      go [] e = refl
      go (j ∷ []) e = cc
      go (j ∷ k ∷ ks) e = cc

  module _ (len : length t.entries ≡ 32) where
    pub first_below : (i : ℕ) → Some i ≡ first_of h → i < 32
    first_below i e = go (matching t.entries v asid 0) refl (e ∙ ap first_of scanned)
      where
        go : (l : List ℕ) → matching t.entries v asid 0 ≡ l → Some i ≡ first_of (hits_of l) → i < 32
        go [] q e = cc
        go (j ∷ js) q e =
            let same : j ≡ i = first_head j js e in
            omega (arith, below t.entries v asid 0 j js q)

    pub has_some : is_some (first_of h) ≡ ltb (lowest t v asid) 32
    unfolding lowest
    has_some = rw scanned (go (matching t.entries v asid 0) refl)
      where
        go : (l : List ℕ) → matching t.entries v asid 0 ≡ l → is_some (first_of (hits_of l)) ≡ ltb (head_of l) 32
        go [] q = refl
        go (j ∷ []) q = let b : j < 32 = omega (arith, below t.entries v asid 0 j [] q) in sym (lt-ltb j 32 b)
        go (j ∷ k ∷ ks) q = let b : j < 32 = omega (arith, below t.entries v asid 0 j (k ∷ ks) q) in sym (lt-ltb j 32 b)
