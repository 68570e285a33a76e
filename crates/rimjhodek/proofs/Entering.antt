-- Entries put into words: what was put is what the words mean, and nothing else is touched.
use Rattle.std.proofs.Common.{◌≡◌, ℕ, zero, suc, ◌+◌, ◌-◌, ◌*◌, ◌%◌, ◌<◌, ◌≤◌, List, length, get_or, set, replicate, sym, refl, ◌∙◌, arith, length-set, get_or-set_other, get_or-set_same, ext_get_or}
use native.Mathlib.Decide.{ℕ_discrete}
use Rattle.cop0.specs.declared.registers.Cop0.{Cop0}
use Rattle.tlb.specs.declared.entries.Entry.{Entry}
use Rattle.tlb.specs.Table.{with_vpn2, fresh_entry, fresh_from, fresh_table}
use Rattle.tlb.specs.Moves.{entry_of, written_of}
use Rattle.tlb.specs.Words.{hi_word, lo_word}
use Rattle.tlb.specs.Sound.{Sound}
use Rattle.tlb.proofs.Words.{words_back}
use Rattle.rimjhodek.specs.Table.{entry_in, entries_in, table_in, put_micro, put_entry, emptied, entries_words, table_words}
use Rattle.rimjhodek.proofs.Scanning.{entries_long, entry_at_lem}
use Rattle.rimjhodek.proofs.Slots.{to_empty}

module _ (ws : List ℕ) (i : ℕ) (e : Entry) where
  abbrev w₁ : List ℕ
  w₁ = set ws (4 * i) e.page_mask

  abbrev w₂ : List ℕ
  w₂ = set w₁ (4 * i + 1) (hi_word e)

  abbrev w₃ : List ℕ
  w₃ = set w₂ (4 * i + 2) (lo_word e.lo0 e.global)

  abbrev x₃ : ℕ
  x₃ = lo_word e.lo1 e.global

  pub put_long : length (put_entry ws i e) ≡ length ws
  put_long = simp length-set

  -- a word that is none of the four
  pub put_apart : (n : ℕ) → (4 * i ≤ n → n < 4 * i + 4 → ⊥) → get_or (put_entry ws i e) n 0 ≡ get_or ws n 0
  put_apart n out =
      get_or-set_other w₃ (4 * i + 3) n x₃ 0 (λ q. out (omega (arith, q)) (omega (arith, q)))
      ∙ get_or-set_other w₂ (4 * i + 2) n (lo_word e.lo0 e.global) 0 (λ q. out (omega (arith, q)) (omega (arith, q)))
      ∙ get_or-set_other w₁ (4 * i + 1) n (hi_word e) 0 (λ q. out (omega (arith, q)) (omega (arith, q)))
      ∙ get_or-set_other ws (4 * i) n e.page_mask 0 (λ q. out (omega (arith, q)) (omega (arith, q)))

  -- one beside the entries
  pub put_beside : (n : ℕ) → i < 32 → 128 ≤ n → get_or (put_entry ws i e) n 0 ≡ get_or ws n 0
  put_beside n h k = put_apart n (λ p q. omega (arith, p, q))

  -- the words of another entry
  pub put_other : (j : ℕ) → (j ≡ i → ⊥) → entry_in (put_entry ws i e) j ≡ entry_in ws j
  unfolding entry_in
  put_other j n =
      rw (
        put_apart (4 * j) (λ p q. n (omega (arith, p, q))),
        put_apart (4 * j + 1) (λ p q. n (omega (arith, p, q))),
        put_apart (4 * j + 2) (λ p q. n (omega (arith, p, q))),
        put_apart (4 * j + 3) (λ p q. n (omega (arith, p, q))),
      )

  module _ (h : i < 32) (long : length ws ≡ 132) where
    put_0 : get_or (put_entry ws i e) (4 * i) 0 ≡ e.page_mask
    put_0 =
        get_or-set_other w₃ (4 * i + 3) (4 * i) x₃ 0 (λ q. omega (arith, q))
        ∙ get_or-set_other w₂ (4 * i + 2) (4 * i) _ 0 (λ q. omega (arith, q))
        ∙ get_or-set_other w₁ (4 * i + 1) (4 * i) _ 0 (λ q. omega (arith, q))
        ∙ get_or-set_same ws (4 * i) _ 0 (omega (arith, long))

    put_1 : get_or (put_entry ws i e) (4 * i + 1) 0 ≡ hi_word e
    put_1 =
        get_or-set_other w₃ (4 * i + 3) (4 * i + 1) x₃ 0 (λ q. omega (arith, q))
        ∙ get_or-set_other w₂ (4 * i + 2) (4 * i + 1) _ 0 (λ q. omega (arith, q))
        ∙ get_or-set_same w₁ (4 * i + 1) _ 0 (rw (length-set ws (4 * i) e.page_mask) (omega (arith, long)))

    put_2 : get_or (put_entry ws i e) (4 * i + 2) 0 ≡ lo_word e.lo0 e.global
    put_2 =
        get_or-set_other w₃ (4 * i + 3) (4 * i + 2) x₃ 0 (λ q. omega (arith, q))
        ∙ get_or-set_same w₂ (4 * i + 2) _ 0 (simp length-set (omega (arith, long)))

    put_3 : get_or (put_entry ws i e) (4 * i + 3) 0 ≡ lo_word e.lo1 e.global
    put_3 = get_or-set_same w₃ (4 * i + 3) x₃ 0 (simp length-set (omega (arith, long)))

    -- the entry that was put there
    pub put_same : Sound e → entry_in (put_entry ws i e) i ≡ e
    unfolding entry_in
    put_same s = rw (put_0, put_1, put_2, put_3) (words_back e s)

    -- so that the table has it in that place
    pub put_table : Sound e → entries_in (put_entry ws i e) ≡ set (entries_in ws) i e
    put_table s =
        ext_get_or (with_vpn2 0) (entries_in (put_entry ws i e)) (set (entries_in ws) i e)
        (entries_long (put_entry ws i e) ∙ sym (length-set (entries_in ws) i e ∙ entries_long ws))
        (λ k p. let q : k < 32 = rw (entries_long (put_entry ws i e)) at p in entry_at_lem (put_entry ws i e) k q ∙ go k q (ℕ_discrete k i))
      where
        go : (k : ℕ) → k < 32 → Dec (k ≡ i) → entry_in (put_entry ws i e) k ≡ get_or (set (entries_in ws) i e) k (with_vpn2 0)
        go k q (yes p) = rw p (put_same s ∙ sym (get_or-set_same (entries_in ws) i e (with_vpn2 0) (rw (entries_long ws) h)))
        go k q (no p) = put_other k p ∙ sym (get_or-set_other (entries_in ws) i k e (with_vpn2 0) p ∙ entry_at_lem ws k q)

-- fresh entries
pub hi_fresh : (i : ℕ) → i < 32 → hi_word (fresh_entry i) ≡ (0x7FF_FFFF - i) * 8192
hi_fresh i h = omega arith

-- the first n of them put into words
unfoldable pub fresh_entries : ℕ → List ℕ → List ℕ
fresh_entries zero ws = ws
fresh_entries (suc n) ws = put_entry (fresh_entries n ws) n (fresh_entry n)

-- all of them put into words of 0, with the slots emptied
pub all_fresh : emptied (fresh_entries 32 (replicate 132 0)) ≡ table_words fresh_table
unfolding fresh_entries fresh_from entries_words table_words
all_fresh = refl

-- a written entry, with the slots emptied
pub put_written : (ws : List ℕ) (i : ℕ) (c : Cop0)
    → emptied (put_entry ws (i % 32) (entry_of c)) ≡ put_micro (put_entry ws (i % 32) (entry_of c)) (written_of (table_in ws) i c)
unfolding written_of
put_written ws i c =
    let past : (n : ℕ) → 128 ≤ n → get_or (put_entry ws (i % 32) (entry_of c)) n 0 ≡ get_or ws n 0 =
    λ n h. put_beside ws (i % 32) (entry_of c) n (omega arith) h in
    to_empty (put_entry ws (i % 32) (entry_of c)) (written_of (table_in ws) i c) refl
    (rw (past 130 (omega arith))) (rw (past 131 (omega arith)))
