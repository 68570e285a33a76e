-- From a segment and a lookup to a translation.
use Rattle.std.proofs.Common.{Result}
use mathlib.Core.Path.{◌≡◌, refl}
use mathlib.Core.Bool.{Bool}
use Prim.Native.Nat.{ℕ}
use Rattle.tlb.specs.declared.table.Tlb.{Tlb}
use Rattle.tlb.specs.declared.table.Looked.{Looked}
use Rattle.tlb.specs.Entries.{told_lookup}
use Rattle.tlb.specs.Lookup.{lookup_answer, lookup_table}
use Rattle.addr.specs.declared.access.Access.{Access}
use Rattle.addr.specs.declared.segments.Segment.{Segment}
use Rattle.addr.specs.declared.segments.Segment.TheVariants.{Direct, Mapped, Invalid}
use Rattle.tlb.specs.declared.entries.Translated.{Translated}
use Rattle.tlb.specs.declared.entries.TlbFault.{TlbFault}
use Rattle.addr.specs.Answers.{told_segment, told_translate}
use Rattle.addr.specs.Segments.{segment_of}
use Rattle.addr.specs.Translate.{mapped_answer, segment_answer, segment_table, translate_answer, translate_table}
use Rattle.tlb.proofs.Answers.{lookup_one}
use Rattle.addr.proofs.Answers.{segment_one}

-- r is the segment as the code has found it
module _ (t : Tlb) (v asid : ℕ) (s : Bool) (a : Access) (r : Segment) (er : told_segment r ≡ told_segment (segment_of a v)) where
  pub by_segment : (g : Segment)
      → r ≡ g
      → (told_translate (segment_answer g (lookup_answer t v asid s)) ≡ told_translate (translate_answer t v asid s a))
      × (segment_table g t (lookup_table t v asid) ≡ translate_table t v asid a)
  unfolding translate_answer translate_table
  by_segment g e = rw (← segment_one r (segment_of a v) er, e) (refl, refl)

  -- l is what the lookup gave, and x its answer
  pub by_lookup : r ≡ Mapped
      → (l : Looked)
      → (told_lookup l.answer ≡ told_lookup (lookup_answer t v asid s)) × (l.tlb ≡ lookup_table t v asid)
      → (x : Result Translated TlbFault)
      → l.answer ≡ x
      → (told_translate (mapped_answer x) ≡ told_translate (translate_answer t v asid s a)) × (l.tlb ≡ translate_table t v asid a)
  by_lookup e l el x ex = rw (el.1, ← ex, lookup_one l.answer (lookup_answer t v asid s) el.0) (by_segment Mapped e)

-- what a lookup keeps of the table, a translation keeps
pub translate_by : (P : Tlb → Type 0) (t : Tlb) (v asid : ℕ) (a : Access) → P t → P (lookup_table t v asid)
    → P (translate_table t v asid a)
unfolding translate_table
translate_by P t v asid a p q = go (segment_of a v)
  where
    go : (g : Segment) → P (segment_table g t (lookup_table t v asid))
    go (Direct x c) = p
    go Mapped = q
    go Invalid = p
