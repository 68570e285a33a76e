-- Words that were the words of what they mean, and no more, are so after a store: whatever is put into them leaves no bit that means
-- nothing. So words that mean the same are the same.
use Rattle.std.proofs.Common.{◌≡◌, ℕ, zero, suc, ◌+◌, ◌*◌, ◌%◌, ◌^◌, ◌<◌, Bool, true, false, eqb, List, [], ◌∷◌, ◌++◌, length, get_or, set, sym, refl, ap, ◌∙◌, subst, arith, get_or-append-add}
use native.Mathlib.Nat.{div-eq_of_lt}
use Rattle.bits.specs.Field.{bit}
use Rattle.cop0.specs.declared.registers.Cop0.{Cop0}
use Rattle.tlb.specs.declared.entries.Entry.{Entry}
use Rattle.tlb.specs.declared.table.Tlb.{Tlb}
use Rattle.tlb.specs.Sound.{Sound}
use Rattle.rimjhodek.specs.Registers.{cop0_in, put_in, over, blank, cop0_words}
use Rattle.rimjhodek.specs.Table.{entries_in, table_in, put_micro, put_entry, entry_words, entries_words, table_words}
use Rattle.rimjhodek.proofs.Meaning.{Rest, Fits, in_fits, again, in_put, rest_put}
use Rattle.rimjhodek.proofs.Scanning.{entries_long}
use Rattle.rimjhodek.proofs.Entering.{put_table, put_beside}
use Rattle.rimjhodek.proofs.Tables as tables

-- a record put into such words
module _ (ws : List ℕ) (long : length ws ≡ 38) (exact : ws ≡ cop0_words (cop0_in ws)) (c : Cop0) (f : Fits c) where
  bare : Rest blank ws
  bare = subst (Rest blank) (sym exact) (rest_put blank (cop0_in ws) (in_fits ws long))

  pub exact_cop0 : put_in ws c ≡ cop0_words (cop0_in (put_in ws c))
  exact_cop0 = again bare c ∙ ap cop0_words (sym (in_put ws c f))

-- a store past the first list
set_past : (xs ys : List ℕ) (n i x : ℕ) → n ≡ length xs + i → set (xs ++ ys) n x ≡ xs ++ set ys i x
set_past [] ys n i x e = ap (λ (k : ℕ). set ys k x) (omega (arith, e))
set_past (y ∷ xs) ys zero i x e = absurd (omega (arith, e))
set_past (y ∷ xs) ys (suc n) i x e = ap (λ (l : List ℕ). y ∷ l) (set_past xs ys n i x (omega (arith, e)))

get_past : (xs ys : List ℕ) (n i : ℕ) → n ≡ length xs + i → get_or (xs ++ ys) n 0 ≡ get_or ys i 0
get_past xs ys n i e = rw e (get_or-append-add xs ys i 0)

words_long : (es : List Entry) → length (entries_words es) ≡ 4 * length es
unfolding entries_words
words_long [] = refl
words_long (e ∷ es) = let h = words_long es in omega (arith, h)

-- the four words after the entries'
abbrev after : ℕ → ℕ → ℕ → ℕ → List ℕ
after a b n s = a ∷ b ∷ n ∷ s ∷ []

module _ (xs : List ℕ) (long : length xs ≡ 128) where
  get : (ys : List ℕ) (n i : ℕ) → n ≡ 128 + i → get_or (xs ++ ys) n 0 ≡ get_or ys i 0
  get ys n i e = get_past xs ys n i (omega (arith, long, e))

  put : (ys : List ℕ) (n i x : ℕ) → n ≡ 128 + i → set (xs ++ ys) n x ≡ xs ++ set ys i x
  put ys n i x e = set_past xs ys n i x (omega (arith, long, e))

  -- a table's other fields put there
  micro_put : (a b n s : ℕ) (t : Tlb) → put_micro (xs ++ after a b n s) t
      ≡ xs ++ after (over 8 a (get_or t.itlb 0 0)) (over 8 b (get_or t.itlb 1 0)) (over 8 n t.itlb_lru) (over 1 s (bit t.shutdown))
  unfolding put_micro
  micro_put a b n s t =
      rw (
        get (after a b n s) 128 0 refl,
        get (after a b n s) 129 1 refl,
        get (after a b n s) 130 2 refl,
        get (after a b n s) 131 3 refl,
        put (after a b n s) 128 0 (over 8 a (get_or t.itlb 0 0)) refl,
        put (after (over 8 a (get_or t.itlb 0 0)) b n s) 129 1 (over 8 b (get_or t.itlb 1 0)) refl,
        put (after (over 8 a (get_or t.itlb 0 0)) (over 8 b (get_or t.itlb 1 0)) n s) 130 2 (over 8 n t.itlb_lru) refl,
        put (after (over 8 a (get_or t.itlb 0 0)) (over 8 b (get_or t.itlb 1 0)) (over 8 n t.itlb_lru) s) 131 3 (over 1 s (bit t.shutdown)) refl,
      )

-- low bits over a word that has no others
over_small : (k w x : ℕ) → w < 2 ^ k → over k w x ≡ x
over_small k w x h = rw (div-eq_of_lt h) (omega arith)

bit_small : (b : Bool) → bit b < 2 ^ 1
bit_small true = omega arith
bit_small false = omega arith

-- a table put into such words
module _ (ws : List ℕ) (exact : ws ≡ table_words (table_in ws)) (t : Tlb) (f : tables.Fits ws t) where
  pub table_put : put_micro ws t ≡ table_words t
  unfolding table_words
  table_put =
      ap (λ (l : List ℕ). put_micro l t) exact
      ∙ micro_put (entries_words (entries_in ws)) (words_long (entries_in ws) ∙ ap (λ (n : ℕ). 4 * n) (entries_long ws)) _ _ _ _ t
      ∙ rw (
        over_small 8 (get_or ws 128 0 % 2 ^ 8) (get_or t.itlb 0 0) (omega arith),
        over_small 8 (get_or ws 129 0 % 2 ^ 8) (get_or t.itlb 1 0) (omega arith),
        over_small 8 (get_or ws 130 0 % 2 ^ 8) t.itlb_lru (omega arith),
        over_small 1 (bit (eqb (get_or ws 131 0 % 2) 1)) (bit t.shutdown) (bit_small (eqb (get_or ws 131 0 % 2) 1)),
        ← f.entries,
      )

  pub exact_table : length ws ≡ 132 → put_micro ws t ≡ table_words (table_in (put_micro ws t))
  exact_table long = table_put ∙ ap table_words (sym (tables.in_put ws t long f))

-- an entry's words among those of others
entry_put : (es : List Entry) (m : List ℕ) (i : ℕ) (e : Entry) → i < length es
    → put_entry (entries_words es ++ m) i e ≡ entries_words (set es i e) ++ m
unfolding entries_words
entry_put [] m i e h = absurd (omega arith)
entry_put (d ∷ es) m zero e h = refl
entry_put (d ∷ es) m (suc i) e h =
    let h₀ : 4 * suc i ≡ suc (suc (suc (suc (4 * i)))) = omega arith in
    let h₁ : 4 * suc i + 1 ≡ suc (suc (suc (suc (4 * i + 1)))) = omega arith in
    let h₂ : 4 * suc i + 2 ≡ suc (suc (suc (suc (4 * i + 2)))) = omega arith in
    let h₃ : 4 * suc i + 3 ≡ suc (suc (suc (suc (4 * i + 3)))) = omega arith in
    rw (h₃, h₂, h₁, h₀) (ap (λ (l : List ℕ). entry_words d ++ l) (entry_put es m i e (omega arith)))

-- an entry put into such words
module _ (ws : List ℕ) (long : length ws ≡ 132) (exact : ws ≡ table_words (table_in ws)) (i : ℕ) (h : i < 32) (e : Entry) (s : Sound e) where
  beside : (n : ℕ) → 127 < n → get_or (put_entry ws i e) n 0 ≡ get_or ws n 0
  beside n p = put_beside ws i e n h (omega arith)

  pub exact_entry : put_entry ws i e ≡ table_words (table_in (put_entry ws i e))
  unfolding table_words
  exact_entry =
      rw (
        put_table ws i e h long s,
        beside 128 (omega arith),
        beside 129 (omega arith),
        beside 130 (omega arith),
        beside 131 (omega arith),
      )
      (ap (λ (l : List ℕ). put_entry l i e) exact ∙ entry_put (entries_in ws) _ i e (rw (entries_long ws) h))
