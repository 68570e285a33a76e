-- A scan that asks one entry after another, and holds where the one match begins, 128 for none or 256 for more.
use Rattle.std.proofs.Common.{◌≡◌, ℕ, zero, suc, ◌+◌, ◌*◌, ◌^◌, ◌<◌, ◌≤◌, Bool, true, false, cond, List, [], ◌∷◌, length, get_or, drop, sym, refl, ap, ◌∙◌, le_of_suc-le-suc, not-suc-le-zero, add-zero, add-one, arith, drop_of_length-le, drop-cons, ne_eqb}
use Rattle.tlb.specs.declared.entries.Entry.{Entry}
use Rattle.tlb.specs.Entries.{matches_of}
use Rattle.tlb.specs.Table.{with_vpn2, matching}
use Rattle.rimjhodek.specs.Table.{entry_in, entries_from, entries_in, only_of, key_of, hits_at, turned}
use Rattle.rimjhodek.proofs.Comparing.{matches_is}

-- the entries from number i up, with what was found before them
unfoldable pub scanned : List Entry → ℕ → ℕ → ℕ → ℕ → ℕ
scanned [] v asid i f = f
scanned (e ∷ es) v asid i f = scanned es v asid (suc i) (turned (matches_of e v asid) (4 * i) f)

module _ (v asid : ℕ) where
  more : (es : List Entry) (i : ℕ) → scanned es v asid i 256 ≡ 256
  unfolding scanned turned
  more [] i = refl
  more (e ∷ es) i = go (matches_of e v asid) (more es (suc i))
    where
      go : (b : Bool) → scanned es v asid (suc i) 256 ≡ 256 → scanned es v asid (suc i) (cond b 256 256) ≡ 256
      go true rest = rest
      go false rest = rest

  one : (es : List Entry) (i n : ℕ) → n < 32 → scanned es v asid i (4 * n) ≡ 4 * only_of (n ∷ matching es v asid i)
  unfolding scanned turned matching
  one [] i n h = refl
  one (e ∷ es) i n h = rw (ne_eqb (4 * n) 128 (λ q. omega (arith, q))) (go (matches_of e v asid) (one es (suc i) n h))
    where
      go : (b : Bool) → scanned es v asid (suc i) (4 * n) ≡ 4 * only_of (n ∷ matching es v asid (suc i))
          → scanned es v asid (suc i) (cond b 256 (4 * n))
          ≡ 4 * only_of (n ∷ cond b (i ∷ matching es v asid (suc i)) (matching es v asid (suc i)))
      go true rest = more es (suc i)
      go false rest = rest

  none : (es : List Entry) (i : ℕ) → i + length es ≤ 32 → scanned es v asid i 128 ≡ 4 * only_of (matching es v asid i)
  unfolding scanned turned matching
  none [] i h = refl
  none (e ∷ es) i h = go (matches_of e v asid) (none es (suc i) (omega arith))
    where
      go : (b : Bool) → scanned es v asid (suc i) 128 ≡ 4 * only_of (matching es v asid (suc i))
          → scanned es v asid (suc i) (cond b (4 * i) 128)
          ≡ 4 * only_of (cond b (i ∷ matching es v asid (suc i)) (matching es v asid (suc i)))
      go true rest = one es (suc i) i (omega arith)
      go false rest = rest

  -- one entry more
  next : (es : List Entry) (i f : ℕ) → i < length es
      → scanned (drop i es) v asid i f
      ≡ scanned (drop (i + 1) es) v asid (i + 1) (turned (matches_of (get_or es i (with_vpn2 0)) v asid) (4 * i) f)
  unfolding scanned
  next es i f h = rw (add-one, drop-cons es i (with_vpn2 0) h)

module _ (ws : List ℕ) where
  long : (n i : ℕ) → length (entries_from ws i n) ≡ n
  unfolding entries_from
  long zero i = refl
  long (suc n) i = ap suc (long n (suc i))

  at : (n i k : ℕ) → k < n → get_or (entries_from ws i n) k (with_vpn2 0) ≡ entry_in ws (i + k)
  unfolding entries_from
  at zero i k h = absurd (not-suc-le-zero h)
  at (suc n) i zero h = ap (entry_in ws) (sym (add-zero i))
  at (suc n) i (suc k) h = at n (suc i) k (le_of_suc-le-suc h) ∙ ap (entry_in ws) (omega arith)

  pub entries_long : length (entries_in ws) ≡ 32
  entries_long = long 32 0

  pub entry_at_lem : (i : ℕ) → i < 32 → get_or (entries_in ws) i (with_vpn2 0) ≡ entry_in ws i
  entry_at_lem i h = at 32 0 i h ∙ ap (entry_in ws) (omega arith)

  module _ (v asid : ℕ) where
    -- what is held before entry i
    abbrev pub Held : ℕ → ℕ → Type 0
    Held i f = scanned (drop i (entries_in ws)) v asid i f ≡ 4 * only_of (matching (entries_in ws) v asid 0)

    pub begin : Held 0 128
    begin = none v asid (entries_in ws) 0 (rw entries_long (omega arith))

    -- entry i, which begins at word `at`
    pub step : asid < 2 ^ 8 → (k : ℕ) → k ≡ key_of v asid → (i j at f r : ℕ) → i < 32 → j ≡ i + 1 → at ≡ 4 * i
        → r ≡ turned (hits_at ws at k) at f → Held i f → Held j r
    step ha k ek i j at f r h ej ea er held =
        rw (ej, er, ea, ek, matches_is ws i v asid ha, ← entry_at_lem i h) (sym (next v asid (entries_in ws) i f (rw entries_long h)) ∙ held)

    pub finish : (i f : ℕ) → 32 ≤ i → Held i f → f ≡ 4 * only_of (matching (entries_in ws) v asid 0)
    unfolding scanned
    finish i f h held = rw (drop_of_length-le (entries_in ws) {i = i} (rw entries_long h)) at held
