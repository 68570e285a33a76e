-- The scan's list of matches, one entry more at a time.
use Rattle.std.proofs.Common.{◌≡◌, refl, sym, ap, ◌∙◌, ℕ, ◌+◌, ◌<◌, ◌≤◌, true, false, cond, List, [], ◌∷◌, length, get_or, drop, Option, Some, None, add-one, drop-cons, lt-ltb, le-ltb, ltb, arith}
use native.Mathlib.Decide.{dec_lt}
use Rattle.std.proofs.lemmas.List.{drop_all}
use Rattle.tlb.specs.declared.entries.Entry.{Entry}
use Rattle.tlb.specs.declared.table.Hits.TheVariants as hits
use Rattle.tlb.specs.Entries.{matches_of}
use Rattle.tlb.specs.Table.{matching, head_of, several, hits_of}

-- the number in hand, where 32 says that there is none, before the rest
abbrev pub held : ℕ → List ℕ → List ℕ
held f l = cond (ltb f 32) (f ∷ l) l

-- the same of an Option
abbrev pub kept : Option ℕ → List ℕ → List ℕ
kept None l = l
kept (Some f) l = f ∷ l

module _ (es : List Entry) (v asid : ℕ) where
  -- the matches from entry i up
  abbrev pub from : ℕ → List ℕ
  from i = matching (drop i es) v asid i

  past : (i : ℕ) → length es ≤ i → from i ≡ []
  unfolding matching
  past i h = rw (drop_all i es h)

  module _ (i : ℕ) (d : Entry) (h : i < length es) where
    hit : matches_of (get_or es i d) v asid ≡ true → from i ≡ i ∷ from (i + 1)
    unfolding matching
    hit m = rw (add-one, drop-cons es i d h, m)

    miss : matches_of (get_or es i d) v asid ≡ false → from i ≡ from (i + 1)
    unfolding matching
    miss m = rw (add-one, drop-cons es i d h, m)

  module _ {l : List ℕ} (len : length es ≡ 32) (f i : ℕ) (all : l ≡ held f (from i)) where
    module _ (d : Entry) (h : i < 32) where
      pub turn_hit : 32 ≤ f → matches_of (get_or es i d) v asid ≡ true → l ≡ held i (from (i + 1))
      turn_hit n m = all ∙ simp (le-ltb f 32 n, lt-ltb i 32 h) (hit i d (omega arith) m)

      pub turn_miss : matches_of (get_or es i d) v asid ≡ false → l ≡ held f (from (i + 1))
      turn_miss m = all ∙ ap (held f) (miss i d (omega arith) m)

    pub ended_parts : 32 ≤ i → f ≤ 32 → (f ≡ head_of l) × (false ≡ several l)
    ended_parts h n = rw (all ∙ ap (held f) (past i (omega arith))) (go (dec_lt f 32))
      where
        go : Dec (f < 32) → (f ≡ head_of (held f [])) × (false ≡ several (held f []))
        go (yes p) = simp (lt-ltb f 32 p) (refl, refl)
        go (no p) =
            let e : f ≡ 32 = omega arith in
            rw e (refl, refl)

  -- the same for a scan that holds an Option
  module _ {l : List ℕ} (len : length es ≡ 32) (i : ℕ) where
    module _ (d : Entry) (h : i < 32) where
      pub turn_first : l ≡ kept None (from i) → matches_of (get_or es i d) v asid ≡ true → l ≡ kept (Some i) (from (i + 1))
      turn_first all m = all ∙ hit i d (omega arith) m

      pub turn_none : (f : Option ℕ) → l ≡ kept f (from i) → matches_of (get_or es i d) v asid ≡ false → l ≡ kept f (from (i + 1))
      turn_none f all m = all ∙ ap (kept f) (miss i d (omega arith) m)

      pub found_second : (f : ℕ) → l ≡ kept (Some f) (from i) → matches_of (get_or es i d) v asid ≡ true → hits.Several f ≡ hits_of l
      found_second f all m =
          sym (ap hits_of (all ∙ ap (kept (Some f)) (hit i d (omega arith) m)))

    module _ (h : 32 ≤ i) where
      pub ended_none : l ≡ kept None (from i) → hits.None ≡ hits_of l
      ended_none all = sym (ap hits_of (all ∙ past i (omega arith)))

      pub ended_one : (f : ℕ) → l ≡ kept (Some f) (from i) → hits.One f ≡ hits_of l
      ended_one f all = sym (ap hits_of (all ∙ ap (kept (Some f)) (past i (omega arith))))

-- all that a scan that holds an Option needs
pub ruleset one_scan = (turn_first, turn_none, found_second, ended_none, ended_one)
