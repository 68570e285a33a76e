-- The table that words mean once a table's slots, next slot and shutdown were put into them: that table.
use Rattle.std.proofs.Common.{◌≡◌, ℕ, zero, suc, ◌+◌, ◌-◌, ◌*◌, ◌%◌, ◌^◌, ◌<◌, ◌≤◌, Bool, true, false, cond, eqb, ltb, List, [], ◌∷◌, length, get_or, set, sym, refl, ap, ◌∙◌, arith, length-set, get_or-set_other, get_or-set_same, ext_get_or, ltb-true, eq-eqb, ne_eqb}
use Rattle.bits.specs.Field.{bit}
use Rattle.bits.specs.Mask.{merged_bits}
use Rattle.cop0.specs.declared.registers.Cop0.{Cop0}
use Rattle.tlb.specs.declared.table.Tlb.{Tlb}
use Rattle.tlb.specs.declared.micro.ItlbProbed.{ItlbProbed}
use Rattle.tlb.specs.Table.{with_vpn2, matching, fresh_from, fresh_table}
use Rattle.tlb.specs.Lookup.{shut_down, table_by, lookup_table}
use Rattle.tlb.specs.Micro.{with_itlb, lowest, slot_hits, probed_of, filled_of}
use Rattle.tlb.specs.Moves.{entry_of, written_of}
use Rattle.tlb.proofs.Sound.{entry_sound}
use Rattle.addr.specs.declared.access.Access.{Access}
use Rattle.addr.specs.declared.segments.Segment.{Segment}
use Rattle.addr.specs.declared.segments.Segment.TheVariants.{Direct, Mapped, Invalid}
use Rattle.addr.specs.Segments.{segment_of}
use Rattle.addr.specs.Translate.{segment_table, translate_table}
use Rattle.rimjhodek.specs.Registers.{over}
use Rattle.rimjhodek.specs.Table.{entry_in, entries_in, table_in, put_micro, put_entry, entries_from, entries_words, table_words}
use Rattle.rimjhodek.proofs.Scanning.{entries_long, entry_at_lem}
use Rattle.rimjhodek.proofs.Entering.{put_table}

-- the entries do not depend on what lies beside them
beside : (ws : List ℕ) (n x : ℕ) → 128 ≤ n → entries_in (set ws n x) ≡ entries_in ws
unfolding entry_in
beside ws n x h =
    ext_get_or (with_vpn2 0) (entries_in (set ws n x)) (entries_in ws) (entries_long (set ws n x) ∙ sym (entries_long ws))
    (λ i p. let q : i < 32 = rw (entries_long (set ws n x)) at p in
    entry_at_lem (set ws n x) i q ∙ same i q ∙ sym (entry_at_lem ws i q))
  where
    same : (i : ℕ) → i < 32 → entry_in (set ws n x) i ≡ entry_in ws i
    same i q =
        rw (
          get_or-set_other ws n (4 * i) x 0 (λ e. omega (arith, e)),
          get_or-set_other ws n (4 * i + 1) x 0 (λ e. omega (arith, e)),
          get_or-set_other ws n (4 * i + 2) x 0 (λ e. omega (arith, e)),
          get_or-set_other ws n (4 * i + 3) x 0 (λ e. omega (arith, e)),
        )

-- four words stored beside them
module _ (ws : List ℕ) (long : length ws ≡ 132) (a b n s : ℕ) where
  abbrev w₁ : List ℕ
  w₁ = set ws 128 a

  abbrev w₂ : List ℕ
  w₂ = set w₁ 129 b

  abbrev w₃ : List ℕ
  w₃ = set w₂ 130 n

  abbrev w₄ : List ℕ
  w₄ = set w₃ 131 s

  at_128 : get_or w₄ 128 0 ≡ a
  at_128 =
      get_or-set_other w₃ 131 128 s 0 (λ e. omega (arith, e))
      ∙ get_or-set_other w₂ 130 128 n 0 (λ e. omega (arith, e))
      ∙ get_or-set_other w₁ 129 128 b 0 (λ e. omega (arith, e))
      ∙ get_or-set_same ws 128 a 0 (omega (arith, long))

  at_129 : get_or w₄ 129 0 ≡ b
  at_129 =
      get_or-set_other w₃ 131 129 s 0 (λ e. omega (arith, e))
      ∙ get_or-set_other w₂ 130 129 n 0 (λ e. omega (arith, e))
      ∙ get_or-set_same w₁ 129 b 0 (simp length-set (omega (arith, long)))

  at_130 : get_or w₄ 130 0 ≡ n
  at_130 =
      get_or-set_other w₃ 131 130 s 0 (λ e. omega (arith, e))
      ∙ get_or-set_same w₂ 130 n 0 (simp length-set (omega (arith, long)))

  at_131 : get_or w₄ 131 0 ≡ s
  at_131 = get_or-set_same w₃ 131 s 0 (simp length-set (omega (arith, long)))

  still : entries_in w₄ ≡ entries_in ws
  still = beside w₃ 131 s (omega arith) ∙ beside w₂ 130 n (omega arith) ∙ beside w₁ 129 b (omega arith) ∙ beside ws 128 a (omega arith)

low : (w x : ℕ) → x < 2 ^ 8 → over 8 w x % 2 ^ 8 ≡ x
low w x h = omega arith

lowest_bit : (w : ℕ) (b : Bool) → eqb (over 1 w (bit b) % 2) 1 ≡ b
lowest_bit w true = eq-eqb (over 1 w 1 % 2) 1 (omega arith)
lowest_bit w false = ne_eqb (over 1 w 0 % 2) 1 (λ e. omega (arith, e))

-- a table with these words' entries, two slots, and numbers of 8 bits
pub record Fits (ws : List ℕ) (t : Tlb) : Type 0 where
  pub entries : t.entries ≡ entries_in ws
  pub two : t.itlb ≡ get_or t.itlb 0 0 ∷ get_or t.itlb 1 0 ∷ []
  pub first : get_or t.itlb 0 0 < 2 ^ 8
  pub second : get_or t.itlb 1 0 < 2 ^ 8
  pub next : t.itlb_lru < 2 ^ 8

module _ (ws : List ℕ) (t : Tlb) where
  pub long_put : length ws ≡ 132 → length (put_micro ws t) ≡ 132
  unfolding put_micro
  long_put long = simp length-set long

  abbrev x₀ : ℕ
  x₀ = over 8 (get_or ws 128 0) (get_or t.itlb 0 0)

  abbrev x₁ : ℕ
  x₁ = over 8 (get_or ws 129 0) (get_or t.itlb 1 0)

  abbrev x₂ : ℕ
  x₂ = over 8 (get_or ws 130 0) t.itlb_lru

  abbrev x₃ : ℕ
  x₃ = over 1 (get_or ws 131 0) (bit t.shutdown)

  abbrev with_slots : List ℕ → Tlb
  with_slots l = record { entries = t.entries; itlb = l; itlb_lru = t.itlb_lru; shutdown = t.shutdown }

  pub in_put : length ws ≡ 132 → Fits ws t → table_in (put_micro ws t) ≡ t
  unfolding put_micro
  in_put long f =
      rw (
        still ws long x₀ x₁ x₂ x₃,
        at_128 ws long x₀ x₁ x₂ x₃,
        at_129 ws long x₀ x₁ x₂ x₃,
        at_130 ws long x₀ x₁ x₂ x₃,
        at_131 ws long x₀ x₁ x₂ x₃,
        low (get_or ws 128 0) (get_or t.itlb 0 0) f.first,
        low (get_or ws 129 0) (get_or t.itlb 1 0) f.second,
        low (get_or ws 130 0) t.itlb_lru f.next,
        lowest_bit (get_or ws 131 0) t.shutdown,
        ← f.entries,
      )
      (ap with_slots (sym f.two))

-- what operations make of the table of words
module _ (ws : List ℕ) where
  abbrev u : Tlb
  u = table_in ws

  home_fits : Fits ws u
  home_fits = record { entries = refl; two = refl; first = omega arith; second = omega arith; next = omega arith }

  shut_fits : Fits ws (shut_down u)
  shut_fits = record { entries = refl; two = refl; first = omega arith; second = omega arith; next = omega arith }

  next_fits : (n : ℕ) → n < 2 ^ 8 → Fits ws (with_itlb u u.itlb n)
  next_fits n h = record { entries = refl; two = refl; first = omega arith; second = omega arith; next = h }

  slot_fits : (i : ℕ) → i < 2 ^ 8 → (way : ℕ) → way < 2 → Fits ws (with_itlb u (set u.itlb way i) (1 - way))
  slot_fits i h zero p = record { entries = refl; two = refl; first = h; second = omega arith; next = omega arith }
  slot_fits i h (suc zero) p = record { entries = refl; two = refl; first = omega arith; second = h; next = omega arith }
  slot_fits i h (suc (suc way)) p = absurd (omega arith)

  module _ (v asid : ℕ) where
    pub looked_fits : Fits ws (lookup_table u v asid)
    unfolding lookup_table
    looked_fits = go u.shutdown (matching (entries_in ws) v asid 0)
      where
        go : (b : Bool) (l : List ℕ) → Fits ws (cond b u (table_by u l))
        go true l = home_fits
        go false [] = home_fits
        go false (i ∷ []) = home_fits
        go false (i ∷ j ∷ is) = shut_fits

    pub translated_fits : (a : Access) → Fits ws (translate_table u v asid a)
    unfolding translate_table
    translated_fits a = go (segment_of a v)
      where
        go : (g : Segment) → Fits ws (segment_table g u (lookup_table u v asid))
        go (Direct p c) = home_fits
        go Mapped = looked_fits
        go Invalid = home_fits

    abbrev hit : ℕ → ItlbProbed
    hit n = record { hit = true; tlb = with_itlb u u.itlb n }

    pub probed_fits : Fits ws (probed_of u v asid).tlb
    unfolding probed_of
    probed_fits = go (slot_hits u (get_or u.itlb 0 0) v asid) (slot_hits u (get_or u.itlb 1 0) v asid)
      where
        go : (x y : Bool) → Fits ws (cond x (hit 1) (cond y (hit 0) (record { hit = false; tlb = u }))).tlb
        go true y = next_fits 1 (omega arith)
        go false true = next_fits 0 (omega arith)
        go false false = home_fits

    abbrev f : ℕ
    f = lowest u v asid

    abbrev way : ℕ
    way = u.itlb_lru % 2

    pub filled_fits : Fits ws (filled_of u v asid)
    unfolding filled_of
    filled_fits = go (ltb f 32) refl
      where
        go : (b : Bool) → ltb f 32 ≡ b → Fits ws (cond b (with_itlb u (set u.itlb way f) (1 - way)) u)
        go true e = slot_fits f (omega (arith, ltb-true f 32 e)) way (omega arith)
        go false e = home_fits

  -- a written entry, among the words that it was put into
  module _ (long : length ws ≡ 132) (i : ℕ) (c : Cop0) where
    abbrev after : List ℕ
    after = put_entry ws (i % 32) (entry_of c)

    pub written_fits : Fits after (written_of u i c)
    unfolding written_of
    written_fits =
        record {
          entries = sym (put_table ws (i % 32) (entry_of c) (omega arith) long (entry_sound c));
          two = refl;
          first = omega arith;
          second = omega arith;
          next = omega arith;
        }

-- the words of a fresh table
pub in_fresh : table_in (table_words fresh_table) ≡ fresh_table
unfolding entry_in entries_from fresh_from entries_words table_words merged_bits
in_fresh = refl

pub long_fresh : length (table_words fresh_table) ≡ 132
unfolding fresh_from entries_words table_words
long_fresh = refl
