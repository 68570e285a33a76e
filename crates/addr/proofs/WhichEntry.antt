-- Which entry answered: a mapped address passes on the number of the lookup, the only entry that matches; a direct one has 32, and no
-- mapped one has. Without the number a translation's answer is what it was before there was one.
use Rattle.std.proofs.Common.{Result, Ok, Err}
use mathlib.Core.Path.{◌≡◌, refl, ap, sym, ◌∙◌, subst}
use mathlib.Core.Bool.{Bool, true, false, false≢true}
use Prim.Native.Nat.{ℕ}
use native.Mathlib.Omega.{arith}
use lib.ListN.{length}
use Rattle.bits.specs.Told.{Told, answered}
use Rattle.tlb.specs.declared.table.Tlb.{Tlb}
use Rattle.tlb.specs.declared.entries.Translated.{Translated}
use Rattle.tlb.specs.Entries.{told_lookup}
use Rattle.tlb.specs.Lookup.{lookup_answer}
use Rattle.tlb.specs.Former.{unnumbered, former_lookup}
use Rattle.addr.specs.declared.access.Access.{Access}
use Rattle.addr.specs.declared.segments.Cached.{Cached}
use Rattle.addr.specs.declared.segments.Segment.{Segment}
use Rattle.addr.specs.declared.segments.Segment.TheVariants.{Direct, Mapped, Invalid}
use Rattle.addr.specs.declared.translate.Physical.{Physical}
use Rattle.addr.specs.declared.translate.Translation.{Translation}
use Rattle.tlb.specs.declared.entries.TlbFault.{TlbFault}
use Rattle.addr.specs.declared.translate.TranslateError.{TranslateError}
use Rattle.addr.specs.Answers.{told_translate}
use Rattle.addr.specs.Segments.{segment_of}
use Rattle.addr.specs.Translate.{mapped_answer, segment_answer, translate_answer}
use Rattle.addr.specs.Former.{former_mapped, former_segment, former_translate}
use Rattle.tlb.proofs.WhichEntry.{Only, found_only, lookup_former}
use Rattle.addr.proofs.Answers.{translate_one}
use Rattle.addr.proofs.translate.translate_via.Reads as translate_via

mapped_former : (l : Result Translated TlbFault)
    → unnumbered (told_translate (mapped_answer l)) ≡ answered (former_mapped (unnumbered (told_lookup l)).values)
mapped_former (Ok y) = go y.uncached
  where
    with_caching : Bool → Result Translated TlbFault
    with_caching b = Ok (record { addr = y.addr; uncached = b; entry = y.entry })

    go : (b : Bool) → unnumbered (told_translate (mapped_answer (with_caching b)))
        ≡ answered (former_mapped (unnumbered (told_lookup (with_caching b))).values)
    go true = refl
    go false = refl
mapped_former (Err f) = refl

pub translate_former : (t : Tlb) (v asid : ℕ) (store : Bool) (a : Access)
    → unnumbered (told_translate (translate_answer t v asid store a)) ≡ former_translate t v asid store a
unfolding translate_answer former_translate
translate_former t v asid store a = go (segment_of a v)
  where
    l : Result Translated TlbFault
    l = lookup_answer t v asid store

    go : (g : Segment) → unnumbered (told_translate (segment_answer g l)) ≡ former_segment g (former_lookup t v asid store)
    go (Direct p c) = refl
    go Mapped = mapped_former l ∙ ap (λ (old : Told). answered (former_mapped old.values)) (lookup_former t v asid store)
    go Invalid = refl

-- an answer's number, where it has one
abbrev number_or : ℕ → Result Physical TranslateError → ℕ
number_or i (Ok x) = x.entry
number_or i (Err e) = i

abbrev is_at : Result Physical TranslateError → Bool
is_at (Ok x) = true
is_at (Err e) = false

-- a translation that leads to x
module _ (t : Tlb) (v asid : ℕ) (store : Bool) (a : Access) (x : Physical) (e : translate_answer t v asid store a ≡ Ok x) where
  abbrev l : Result Translated TlbFault
  l = lookup_answer t v asid store

  by_segment : (g : Segment) → segment_of a v ≡ g → segment_answer g l ≡ Ok x
  unfolding translate_answer
  by_segment g q = rw q at e

  pub direct_has_32 : (p : ℕ) (c : Cached) → segment_of a v ≡ Direct p c → x.entry ≡ 32
  direct_has_32 p c q = sym (ap (number_or 32) (by_segment (Direct p c) q))

  module _ (q : segment_of a v ≡ Mapped) where
    -- the lookup succeeded, and its number is passed on
    pub passed_on : (y : Translated) → l ≡ Ok y → x.entry ≡ y.entry
    passed_on y f = sym (ap (number_or y.entry) (rw f at (by_segment Mapped q)))

    pub mapped_only : length t.entries ≡ 32 → Only t v asid x.entry
    mapped_only long = go l refl (by_segment Mapped q)
      where
        go : (m : Result Translated TlbFault) → l ≡ m → mapped_answer m ≡ Ok x → Only t v asid x.entry
        go (Ok y) f r = subst (Only t v asid) (sym (passed_on y f)) (found_only t long v asid store y f)
        go (Err f) s r = absurd (false≢true (ap is_at r))

    pub mapped_has_not_32 : length t.entries ≡ 32 → x.entry ≡ 32 → ⊥
    mapped_has_not_32 long r = omega (arith, (mapped_only long).below, r)

-- the same of a call, by its contract
module _ (b : Tlb × (ℕ × (ℕ × (Bool × (Access × Unit {0}))))) (r : Translation) (p : translate_via.Post tt b r b) where
  pub call_former : unnumbered (told_translate r.answer) ≡ former_translate b.0 b.1.0 b.1.1.0 b.1.1.1.0 b.1.1.1.1.0
  call_former = ap unnumbered p.0 ∙ translate_former b.0 b.1.0 b.1.1.0 b.1.1.1.0 b.1.1.1.1.0

  module _ (x : Physical) (e : r.answer ≡ Ok x) where
    answer_is : translate_answer b.0 b.1.0 b.1.1.0 b.1.1.1.0 b.1.1.1.1.0 ≡ Ok x
    answer_is = sym (translate_one r.answer _ p.0) ∙ e

    pub call_direct : (q : ℕ) (c : Cached) → segment_of b.1.1.1.1.0 b.1.0 ≡ Direct q c → x.entry ≡ 32
    call_direct = direct_has_32 b.0 b.1.0 b.1.1.0 b.1.1.1.0 b.1.1.1.1.0 x answer_is

    pub call_mapped : segment_of b.1.1.1.1.0 b.1.0 ≡ Mapped → length b.0.entries ≡ 32
        → Only b.0 b.1.0 b.1.1.0 x.entry
    call_mapped = mapped_only b.0 b.1.0 b.1.1.0 b.1.1.1.0 b.1.1.1.1.0 x answer_is
