-- Which entry answered: a lookup that succeeds has the number of the only entry that matches, and without the number its answer is
-- what it was before there was one.
use Rattle.std.proofs.Common.{Result, Ok, Err}
use mathlib.Core.Path.{◌≡◌, refl, ap, sym, ◌∙◌, subst}
use mathlib.Core.Bool.{Bool, true, false, cond, false≢true}
use mathlib.Core.List.{List, [], ◌∷◌}
use Prim.Native.Nat.{ℕ, ◌-◌, ◌<◌}
use lib.ListN.{length}
use Rattle.bits.specs.Told.{Told}
use Rattle.tlb.specs.declared.entries.PageEntry.{PageEntry}
use Rattle.tlb.specs.declared.entries.Entry.{Entry}
use Rattle.tlb.specs.declared.entries.Translated.{Translated}
use Rattle.tlb.specs.declared.entries.TlbFault.{TlbFault}
use Rattle.tlb.specs.declared.entries.TlbFault.TheVariants.{Refill, Invalid, Modified}
use Rattle.tlb.specs.declared.table.Tlb.{Tlb}
use Rattle.tlb.specs.declared.table.Looked.{Looked}
use Rattle.tlb.specs.Entries.{matches_of, page_size_of, half_of, translated, half_answer, entry_answer, told_lookup}
use Rattle.tlb.specs.Table.{entry_at, matching}
use Rattle.tlb.specs.Lookup.{answer_by, lookup_answer}
use Rattle.tlb.specs.Former.{unnumbered, fault, former_page, former_half, former_entry, former_by, former_lookup}
use Rattle.tlb.proofs.Answers.{lookup_one}
use Rattle.tlb.proofs.OnlyMatch.{only_one}
use Rattle.tlb.proofs.table.Tlb.lookup.Reads as lookup

-- what holds of a page that may be reached and of the two faults holds of a half
by_half : (R : Result Translated TlbFault → Told → Type 0) (i : ℕ) (p : PageEntry) (m v : ℕ) (store : Bool) → R (translated i p m v) (former_page p m v)
    → ((f : TlbFault) → R (Err f) (fault f)) → R (half_answer i p m v store) (former_half p m v store)
unfolding half_answer
by_half R i p m v store given faulted = go p.valid store p.dirty
  where
    go : (b s d : Bool)
        → R (cond b (cond s (cond d (translated i p m v) (Err Modified)) (translated i p m v)) (Err Invalid))
        (cond b (cond s (cond d (former_page p m v) (fault Modified)) (former_page p m v)) (fault Invalid))
    go true true true = given
    go true true false = faulted Modified
    go true false d = given
    go false s d = faulted Invalid

-- without its number
entry_former : (i : ℕ) (e : Entry) (v : ℕ) (store : Bool) → unnumbered (told_lookup (entry_answer i e v store)) ≡ former_entry e v store
unfolding entry_answer
entry_former i e v store =
    by_half (λ a former. unnumbered (told_lookup a) ≡ former) i (half_of e v) (page_size_of e.page_mask - 1) v store refl (λ f. refl)

by_former : (t : Tlb) (l : List ℕ) (v : ℕ) (store : Bool) → unnumbered (told_lookup (answer_by t l v store)) ≡ former_by t l v store
by_former t [] v store = refl
by_former t (i ∷ []) v store = entry_former i (entry_at t i) v store
by_former t (i ∷ j ∷ is) v store = refl

pub lookup_former : (t : Tlb) (v asid : ℕ) (store : Bool)
    → unnumbered (told_lookup (lookup_answer t v asid store)) ≡ former_lookup t v asid store
unfolding lookup_answer former_lookup
lookup_former t v asid store = go t.shutdown (by_former t l v store)
  where
    l : List ℕ
    l = matching t.entries v asid 0

    go : (b : Bool) → unnumbered (told_lookup (answer_by t l v store)) ≡ former_by t l v store
        → unnumbered (told_lookup (cond b (Err Refill) (answer_by t l v store))) ≡ cond b (fault Refill) (former_by t l v store)
    go true e = refl
    go false e = e

-- an answer's number, where it has one
abbrev number_or : ℕ → Result Translated TlbFault → ℕ
number_or i (Ok x) = x.entry
number_or i (Err f) = i

abbrev is_found : Result Translated TlbFault → Bool
is_found (Ok x) = true
is_found (Err f) = false

entry_number : (i : ℕ) (e : Entry) (v : ℕ) (store : Bool) → number_or i (entry_answer i e v store) ≡ i
unfolding entry_answer
entry_number i e v store =
    by_half (λ a former. number_or i a ≡ i) i (half_of e v) (page_size_of e.page_mask - 1) v store refl (λ f. refl)

-- entry i matches, and no other of the 32 does
pub record Only (t : Tlb) (v asid i : ℕ) : Type 0 where
  pub below : i < 32
  pub hits : matches_of (entry_at t i) v asid ≡ true
  pub alone : (n : ℕ) → n < 32 → matches_of (entry_at t n) v asid ≡ true → n ≡ i

-- of a table of 32 entries, as every one that the type holds is
module _ (t : Tlb) (long : length t.entries ≡ 32) (v asid : ℕ) (store : Bool) (x : Translated) where
  pub found_only : lookup_answer t v asid store ≡ Ok x → Only t v asid x.entry
  unfolding lookup_answer
  found_only e = go t.shutdown (matching t.entries v asid 0) refl e
    where
      go : (b : Bool) (l : List ℕ) → matching t.entries v asid 0 ≡ l
          → cond b (Err Refill) (answer_by t l v store) ≡ Ok x → Only t v asid x.entry
      go true l q f = absurd (false≢true (ap is_found f))
      go false [] q f = absurd (false≢true (ap is_found f))
      go false (i ∷ []) q f =
          let same : x.entry ≡ i = sym (ap (number_or i) f) ∙ entry_number i (entry_at t i) v store in
          let o = only_one t long v asid i q in
          subst (Only t v asid) (sym same) (record { below = o.0; hits = o.1; alone = o.2 })
      go false (i ∷ j ∷ is) q f = absurd (false≢true (ap is_found f))

-- the same of a call, by its contract
module _ (a : Tlb × (ℕ × (ℕ × (Bool × Unit {0})))) (r : Looked) (p : lookup.Post tt a r a) where
  pub call_former : unnumbered (told_lookup r.answer) ≡ former_lookup a.0 a.1.0 a.1.1.0 a.1.1.1.0
  call_former = ap unnumbered p.0 ∙ lookup_former a.0 a.1.0 a.1.1.0 a.1.1.1.0

  pub call_only : length a.0.entries ≡ 32 → (x : Translated) → r.answer ≡ Ok x → Only a.0 a.1.0 a.1.1.0 x.entry
  call_only long x e =
      found_only a.0 long a.1.0 a.1.1.0 a.1.1.1.0 x (sym (lookup_one r.answer _ p.0) ∙ e)
