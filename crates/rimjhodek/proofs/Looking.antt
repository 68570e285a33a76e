-- A lookup in words, by what the scan found; and the lowest match, by asking one entry after another.
use Rattle.std.proofs.Common.{ltb, cond, Some, None, is_some, ltb-true, ◌≡◌, ℕ, ◌+◌, ◌-◌, ◌%◌, ◌^◌, ◌<◌, ◌≤◌, Bool, true, false, List, [], ◌∷◌, get_or, drop, set, sym, refl, ap, ◌∙◌, arith, lt-ltb, eq-eqb, ne_eqb, Result, Err}
use Rattle.std.proofs.lemmas.Option.{cond_some}
use Rattle.bits.specs.Field.{with_field_of}
use Rattle.tlb.specs.declared.entries.TlbFault.TheVariants.{Refill}
use Rattle.tlb.specs.declared.entries.Entry.{Entry}
use Rattle.tlb.specs.declared.entries.Translated.{Translated}
use Rattle.tlb.specs.declared.entries.TlbFault.{TlbFault}
use Rattle.tlb.specs.Entries.{matches_of, entry_answer}
use Rattle.tlb.specs.Table.{with_vpn2, entry_at, matching, head_of, several}
use Rattle.tlb.specs.Lookup.{lookup_answer, lookup_table}
use Rattle.tlb.specs.Micro.{lowest, slot_hits, probed_of, filled_of}
use Rattle.tlb.proofs.Looking.{below as table_below, is_shut, none_answers, one_answers, several_shuts}
use Rattle.tlb.proofs.Scanning.{held, turn_hit, turn_miss, ended_parts}
use Rattle.rimjhodek.specs.Table.{entry_in, entries_in, table_in, put_micro, only_of, key_of, word_hits, looked_of, if_below}
use Rattle.rimjhodek.proofs.Naming.{cond_none}
use Rattle.rimjhodek.proofs.Comparing.{matches_is}
use Rattle.rimjhodek.proofs.Scanning.{entries_long, entry_at_lem}
use Rattle.rimjhodek.proofs.Slots.{at_home, to_shut, to_next, to_slot}

-- what matches is an entry of the table
abbrev Small : List ℕ → Type 0
Small l = (j : ℕ) (js : List ℕ) → l ≡ j ∷ js → j < 32

-- the scan's number, by how many match
by_one : (l : List ℕ) → only_of l < 32 → l ≡ only_of l ∷ []
by_one [] h = absurd (omega arith)
by_one (i ∷ []) h = refl
by_one (i ∷ j ∷ is) h = absurd (omega arith)

by_none : (l : List ℕ) → Small l → only_of l ≡ 32 → l ≡ []
by_none [] s e = refl
by_none (i ∷ []) s e = absurd (omega (arith, s i [] refl))
by_none (i ∷ j ∷ is) s e = absurd (omega arith)

by_more : (l : List ℕ) → Small l → 32 ≤ only_of l → (only_of l ≡ 32 → ⊥) → several l ≡ true
by_more [] s h n = absurd (n refl)
by_more (i ∷ []) s h n = absurd (omega (arith, s i [] refl))
by_more (i ∷ j ∷ is) s h n = refl

module _ (ws : List ℕ) (v asid : ℕ) where
  abbrev l : List ℕ
  l = matching (entries_in ws) v asid 0

  small : Small l
  small j js e = omega (arith, table_below (entries_in ws) v asid 0 j js e, entries_long ws)

  -- what a lookup must answer and leave
  abbrev Looks : Bool → Result Translated TlbFault → List ℕ → Type 0
  Looks store a ws' = (looked_of a ≡ looked_of (lookup_answer (table_in ws) v asid store)) × (ws' ≡ put_micro ws (lookup_table (table_in ws) v asid))

  module _ (store : Bool) where
    pub when_shut : get_or ws 131 0 % 2 ≡ 1 → Looks store (Err Refill) ws
    when_shut e =
        let r = is_shut (table_in ws) v asid store (eq-eqb (get_or ws 131 0 % 2) 1 e) in
        (ap looked_of r.0, sym (at_home ws) ∙ ap (put_micro ws) r.1)

    module _ (is_open : get_or ws 131 0 % 2 ≡ 1 → ⊥) (f : ℕ) (ef : f ≡ only_of l) where
      on : (table_in ws).shutdown ≡ false
      on = ne_eqb (get_or ws 131 0 % 2) 1 is_open

      pub when_one : f < 32 → Looks store (entry_answer f (entry_in ws f) v store) ws
      when_one h =
          let r = one_answers (table_in ws) v asid store on f (by_one l (rw ef at h) ∙ ap (λ (i : ℕ). i ∷ []) (sym ef)) in
          let at : entry_at (table_in ws) f ≡ entry_in ws f = entry_at_lem ws f h in
          (ap looked_of (ap (λ (e : Entry). entry_answer f e v store) (sym at) ∙ r.0), sym (at_home ws) ∙ ap (put_micro ws) r.1)

      pub when_none : f ≡ 32 → Looks store (Err Refill) ws
      when_none h =
          let r = none_answers (table_in ws) v asid store on (by_none l small (sym ef ∙ h)) in
          (ap looked_of r.0, sym (at_home ws) ∙ ap (put_micro ws) r.1)

      pub when_more : 32 ≤ f → (f ≡ 32 → ⊥) → Looks store (Err Refill) (set ws 131 (with_field_of (get_or ws 131 0) 0 0 1))
      when_more h n =
          let r = several_shuts (table_in ws) v asid store on (by_more l small (rw ef at h) (λ q. n (ef ∙ q))) in
          (ap looked_of r.0, to_shut ws ∙ ap (put_micro ws) r.1)

  -- the lowest match is among the entries from i up
  abbrev pub Ahead : ℕ → Type 0
  Ahead i = l ≡ held 32 (matching (drop i (entries_in ws)) v asid i)

  pub lowest_nowhere : (i : ℕ) → 32 ≤ i → Ahead i → 32 ≡ lowest (table_in ws) v asid
  unfolding lowest
  lowest_nowhere i h a = (ended_parts (entries_in ws) v asid (entries_long ws) 32 i a h (omega arith)).0

  module _ (ha : asid < 2 ^ 8) (k : ℕ) (ek : k ≡ key_of v asid) where
    -- what is told of an entry's words is told of the entry
    told_at : (i : ℕ) → i < 32 → (b : Bool) → b ≡ word_hits ws i k → matches_of (get_or (entries_in ws) i (with_vpn2 0)) v asid ≡ b
    told_at i h b e = rw (entry_at_lem ws i h) (sym (e ∙ ap (word_hits ws i) ek ∙ matches_is ws i v asid ha))

    pub lowest_here : (i : ℕ) → i < 32 → Ahead i → (b : Bool) → b ≡ word_hits ws i k → b ≡ true → i ≡ lowest (table_in ws) v asid
    unfolding lowest
    lowest_here i h a b e t =
        sym (ap head_of (turn_hit (entries_in ws) v asid (entries_long ws) 32 i a (with_vpn2 0) h (omega arith) (told_at i h b e ∙ t)) ∙ rw (lt-ltb i 32 h))

    pub lowest_past : (i : ℕ) → i < 32 → Ahead i → (b : Bool) → b ≡ word_hits ws i k → b ≡ false → Ahead (i + 1)
    lowest_past i h a b e t = turn_miss (entries_in ws) v asid (entries_long ws) 32 i a (with_vpn2 0) h (told_at i h b e ∙ t)

    -- a slot by the entry that it names
    pub slot_asked : (i : ℕ) → i < 32 → (b : Bool) → b ≡ word_hits ws i k → b ≡ slot_hits (table_in ws) i v asid
    unfolding slot_hits
    slot_asked i h b e = rw (lt-ltb i 32 h) (sym (told_at i h b e))

  -- the micro-TLB, by which slot hits
  abbrev Probes : Bool → List ℕ → Type 0
  Probes hit ws' = (hit ≡ (probed_of (table_in ws) v asid).hit) × (ws' ≡ put_micro ws (probed_of (table_in ws) v asid).tlb)

  abbrev slot : ℕ → Bool
  slot n = slot_hits (table_in ws) (get_or ws n 0 % 2 ^ 8) v asid

  abbrev next : ℕ → ℕ
  next n = with_field_of (get_or ws 130 0) 7 0 n

  pub first_hits : slot 128 ≡ true → (x : ℕ) → x ≡ next 1 → Probes true (set ws 130 x)
  unfolding probed_of
  first_hits h x e = rw (h, e) (refl, to_next ws 1 (omega arith))

  pub second_hits : slot 128 ≡ false → slot 129 ≡ true → (x : ℕ) → x ≡ next 0 → Probes true (set ws 130 x)
  unfolding probed_of
  second_hits h k x e = rw (h, k, e) (refl, to_next ws 0 (omega arith))

  pub neither_hits : slot 128 ≡ false → slot 129 ≡ false → Probes false ws
  unfolding probed_of
  neither_hits h k = rw (h, k) (refl, sym (at_home ws))

  -- a fill, by the lowest match
  module _ (f : ℕ) (ef : f ≡ lowest (table_in ws) v asid) where
    abbrev Fills : List ℕ → Type 0
    Fills ws' = ws' ≡ put_micro ws (filled_of (table_in ws) v asid)

    abbrev way : ℕ
    way = get_or ws 130 0 % 2

    pub fills : f < 32 → (x : ℕ) → x ≡ with_field_of (get_or ws (128 + way) 0) 7 0 f
        → (y : ℕ) → y ≡ with_field_of (get_or (set ws (128 + way) x) 130 0) 7 0 (1 - way) → Fills (set (set ws (128 + way) x) 130 y)
    unfolding filled_of
    fills h x ex y ey =
        let same : get_or ws 130 0 % 2 ^ 8 % 2 ≡ way = omega arith in
        rw (← ef, lt-ltb f 32 h, same, ey, ex) (to_slot ws f (omega arith) way (omega arith))

    pub fills_nothing : ltb f 32 ≡ false → Fills ws
    unfolding filled_of
    fills_nothing h = rw (← ef, h) (sym (at_home ws))

-- the number of an entry, or none
pub some_below : (i : ℕ) → is_some (if_below i) ≡ ltb i 32
some_below i = go (ltb i 32)
  where
    go : (b : Bool) → is_some (cond b (Some i) None) ≡ b
    go true = refl
    go false = refl

pub below : (i n : ℕ) → if_below i ≡ Some n → (n ≡ i) × (n < 32)
below i n e =
    let w = cond_some (ltb i 32) i n e in
    (sym w.1, rw (← w.1) (ltb-true i 32 w.0))

pub not_below : (i : ℕ) → if_below i ≡ None → ltb i 32 ≡ false
not_below i e = cond_none (ltb i 32) i e
