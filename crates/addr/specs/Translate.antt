-- What a translation answers, and the table that it leaves.
use Rattle.std.specs.Prelude.{Bool, cond, ℕ, Result, Ok, Err}
use Rattle.tlb.specs.declared.table.Tlb.{Tlb}
use Rattle.tlb.specs.declared.entries.TlbFault.{TlbFault}
use Rattle.tlb.specs.declared.entries.Translated.{Translated}
use Rattle.tlb.specs.Lookup.{lookup_answer, lookup_table}
use Rattle.addr.specs.declared.access.Access.{Access}
use Rattle.addr.specs.declared.segments.Cached.{Cached}
use Rattle.addr.specs.declared.segments.Cached.TheVariants.{Yes, No}
use Rattle.addr.specs.declared.segments.Segment.{Segment}
use Rattle.addr.specs.declared.segments.Segment.TheVariants.{Direct, Mapped, Invalid}
use Rattle.addr.specs.declared.translate.TranslateError.TheVariants as error
use Rattle.addr.specs.declared.translate.Physical.{Physical}
use Rattle.addr.specs.declared.translate.TranslateError.{TranslateError}
use Rattle.addr.specs.Segments.{segment_of}

-- by entry i of the TLB
abbrev pub reached : ℕ → Cached → ℕ → Result Physical TranslateError
reached p c i = Ok (record { addr = p; cached = c; entry = i })

-- what an entry gave: its C field decides the caching, and its number is passed on
abbrev pub by_entry : Translated → Physical
by_entry t = record { addr = t.addr; cached = cond t.uncached No Yes; entry = t.entry }

-- the lookup's answer, as a translation's
abbrev pub mapped_answer : Result Translated TlbFault → Result Physical TranslateError
mapped_answer (Ok t) = Ok (by_entry t)
mapped_answer (Err f) = Err (error.Tlb f)

-- by the segment, with the lookup's answer for a mapped one; 32 where no entry was asked
abbrev pub segment_answer : Segment → Result Translated TlbFault → Result Physical TranslateError
segment_answer (Direct p c) l = reached p c 32
segment_answer Mapped l = mapped_answer l
segment_answer Invalid l = Err error.Address

unfoldable pub translate_answer : Tlb → ℕ → ℕ → Bool → Access → Result Physical TranslateError
translate_answer t v asid store a = segment_answer (segment_of a v) (lookup_answer t v asid store)

-- the table: as the lookup leaves it where it was asked, else untouched
abbrev pub segment_table : {A : Type 0} → Segment → A → A → A
segment_table (Direct p c) untouched looked = untouched
segment_table Mapped untouched looked = looked
segment_table Invalid untouched looked = untouched

unfoldable pub translate_table : Tlb → ℕ → ℕ → Access → Tlb
translate_table t v asid a = segment_table (segment_of a v) t (lookup_table t v asid)
