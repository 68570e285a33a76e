-- The number and the values of each answer. A proper answer's values follow the number of its case; a refusal has none and
-- stands alone, as the scope has it.
use Rattle.std.specs.Prelude.{List, [], ◌∷◌, ℕ}
use Rattle.bits.specs.Field.{bit}
use Rattle.bits.specs.Told.{Told, answered}
use Rattle.cop0.specs.Advance.{told_advance}
use Rattle.tlb.specs.declared.entries.PageEntry.{PageEntry}
use Rattle.tlb.specs.declared.entries.Entry.{Entry}
use Rattle.tlb.specs.Entries.{told_lookup}
use Rattle.addr.specs.Answers.{told_translate}
use Rattle.session.specs.declared.op.Answer.{Answer}
use Rattle.session.specs.declared.op.Answer.TheVariants as answer

-- values after the number of a case; none stay none
abbrev pub after : ℕ → List ℕ → List ℕ
after k [] = []
after k (v ∷ vs) = k ∷ v ∷ vs

-- an answer of case k
abbrev pub of_case : ℕ → Told → Told
of_case k t = record { number = t.number; values = after k t.values }

abbrev pub done : Told
done = answered (0 ∷ [])

abbrev pub number : ℕ → Told
number v = answered (1 ∷ v ∷ [])

abbrev pub half_values : PageEntry → List ℕ → List ℕ
half_values p vs = p.pfn ∷ p.c ∷ bit p.dirty ∷ bit p.valid ∷ vs

abbrev pub entry_values : Entry → List ℕ
entry_values e =
    e.page_mask ∷ e.vpn2 ∷ e.asid ∷ bit e.global ∷ e.region ∷ half_values e.lo0 (half_values e.lo1 [])

-- the cases, 0 to 7
abbrev pub told_answer : Answer → Told
told_answer answer.Done = done
told_answer (answer.Number v) = number v
told_answer (answer.Flag b) = answered (2 ∷ bit b ∷ [])
told_answer (answer.Entry e) = answered (3 ∷ entry_values e)
told_answer (answer.Lookup a) = of_case 4 (told_lookup a)
told_answer (answer.Translate a) = of_case 5 (told_translate a)
told_answer (answer.Vector d) = answered (6 ∷ d.vector ∷ d.stall_cycles ∷ [])
told_answer (answer.Advance a) = of_case 7 (told_advance a)
