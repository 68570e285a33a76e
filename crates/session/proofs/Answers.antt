-- The numbers and values of answers are one-to-one: each has the answer that it came from.
use Rattle.std.proofs.Common.{Ok, Err}
use mathlib.Core.Path.{◌≡◌, refl, ap, ap₂}
use mathlib.Core.Bool.{cond}
use mathlib.Core.List.{List, [], ◌∷◌}
use Prim.Native.Nat.{ℕ}
use lib.Dec.{eqb}
use lib.ListN.{get_or}
use Rattle.bits.specs.Told.{Told}
use Rattle.bits.proofs.Same.{one_to_one}
use Rattle.bits.proofs.FieldLaws.{bit_undone}
use Rattle.cop0.proofs.Answers.{advance_at, advance_undone}
use Rattle.tlb.specs.declared.entries.PageEntry.{PageEntry}
use Rattle.tlb.specs.declared.entries.Entry.{Entry}
use Rattle.tlb.proofs.Answers.{lookup_at, lookup_undone}
use Rattle.addr.proofs.Answers.{translate_at, translate_undone}
use Rattle.exception.specs.declared.epilogue.Dispatch.{Dispatch}
use Rattle.session.specs.declared.op.Answer.{Answer}
use Rattle.session.specs.declared.op.Answer.TheVariants as answer
use Rattle.session.specs.declared.session.Session.{Session}
use Rattle.session.specs.declared.session.Stepped.{Stepped}
use Rattle.session.specs.Answers.{entry_values, told_answer}
use Rattle.session.specs.Step.{Outcome, outcome}

-- the half whose values start at place i
abbrev half_at : List ℕ → ℕ → ℕ → ℕ → ℕ → PageEntry
half_at vs i j k l = record { pfn = get_or vs i 0; c = get_or vs j 0; dirty = eqb (get_or vs k 0) 1; valid = eqb (get_or vs l 0) 1 }

abbrev entry_of : List ℕ → Entry
entry_of vs =
    record {
      page_mask = get_or vs 0 0;
      vpn2 = get_or vs 1 0;
      asid = get_or vs 2 0;
      global = eqb (get_or vs 3 0) 1;
      region = get_or vs 4 0;
      lo0 = half_at vs 5 6 7 8;
      lo1 = half_at vs 9 10 11 12;
    }

entry_undone : (e : Entry) → entry_of (entry_values e) ≡ e
entry_undone e =
    rw (
      bit_undone e.global,
      bit_undone e.lo0.dirty,
      bit_undone e.lo0.valid,
      bit_undone e.lo1.dirty,
      bit_undone e.lo1.valid,
    )

abbrev dispatch_of : List ℕ → Dispatch
dispatch_of vs = record { vector = get_or vs 0 0; stall_cycles = get_or vs 1 0 }

-- the answer of case k
abbrev of_kind : ℕ → ℕ → List ℕ → Answer
of_kind k n vs =
    cond (eqb k 0) answer.Done
    (cond (eqb k 1) (answer.Number (get_or vs 0 0))
    (cond (eqb k 2) (answer.Flag (eqb (get_or vs 0 0) 1))
    (cond (eqb k 3) (answer.Entry (entry_of vs))
    (cond (eqb k 4) (answer.Lookup (lookup_at vs))
    (cond (eqb k 5) (answer.Translate (translate_at vs))
    (cond (eqb k 6) (answer.Vector (dispatch_of vs))
    (answer.Advance (advance_at n vs))))))))

abbrev answer_at : ℕ → List ℕ → Answer
answer_at n [] = answer.Advance (advance_at n [])
answer_at n (k ∷ vs) = of_kind k n vs

answer_undone : (a : Answer) → answer_at (told_answer a).number (told_answer a).values ≡ a
answer_undone answer.Done = refl
answer_undone (answer.Number v) = refl
answer_undone (answer.Flag b) = ap answer.Flag (bit_undone b)
answer_undone (answer.Entry e) = ap answer.Entry (entry_undone e)
answer_undone (answer.Lookup (Ok t)) = ap answer.Lookup (lookup_undone (Ok t))
answer_undone (answer.Lookup (Err f)) = ap answer.Lookup (lookup_undone (Err f))
answer_undone (answer.Translate (Ok p)) = ap answer.Translate (translate_undone (Ok p))
answer_undone (answer.Translate (Err e)) = ap answer.Translate (translate_undone (Err e))
answer_undone (answer.Vector d) = refl
answer_undone (answer.Advance (Ok e)) = ap answer.Advance (advance_undone (Ok e))
answer_undone (answer.Advance (Err r)) = ap answer.Advance (advance_undone (Err r))

pub answer_one : (a a' : Answer) → told_answer a ≡ told_answer a' → a ≡ a'
answer_one = one_to_one told_answer (λ (t : Told). answer_at t.number t.values) answer_undone

abbrev made : Answer → Session → Stepped
made a s = record { answer = a; session = s }

-- so that an outcome has one result
pub outcome_one : (r r' : Stepped) → outcome r ≡ outcome r' → r ≡ r'
outcome_one r r' e =
    ap₂ made
    (answer_one r.answer r'.answer (ap (λ (o : Outcome). o.answer) e))
    (ap (λ (o : Outcome). o.session) e)
