-- A translation's answer before it had the entry's number: the physical address and its caching, or the error's number.
use Rattle.std.specs.Prelude.{Bool, cond, List, [], ◌∷◌, ℕ, eqb}
use Rattle.bits.specs.Told.{Told, answered}
use Rattle.tlb.specs.declared.table.Tlb.{Tlb}
use Rattle.tlb.specs.Former.{former_lookup}
use Rattle.addr.specs.declared.access.Access.{Access}
use Rattle.addr.specs.declared.segments.Cached.TheVariants.{Yes, No}
use Rattle.addr.specs.declared.segments.Segment.{Segment}
use Rattle.addr.specs.declared.segments.Segment.TheVariants.{Direct, Mapped, Invalid}
use Rattle.addr.specs.declared.translate.TranslateError.TheVariants.{Address}
use Rattle.addr.specs.Answers.{cached_number, error_number}
use Rattle.addr.specs.Segments.{segment_of}

-- the lookup's values, of which the second says whether it is uncached
abbrev pub former_mapped : List ℕ → List ℕ
former_mapped [] = []
former_mapped (f ∷ []) = f ∷ []
former_mapped (a ∷ u ∷ vs) = a ∷ cached_number (cond (eqb u 1) No Yes) ∷ []

abbrev pub former_segment : Segment → Told → Told
former_segment (Direct p c) l = answered (p ∷ cached_number c ∷ [])
former_segment Mapped l = answered (former_mapped l.values)
former_segment Invalid l = answered (error_number Address ∷ [])

unfoldable pub former_translate : Tlb → ℕ → ℕ → Bool → Access → Told
former_translate t v asid store a = former_segment (segment_of a v) (former_lookup t v asid store)
