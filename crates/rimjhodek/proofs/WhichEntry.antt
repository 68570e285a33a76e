-- Which entry answered, of the exports by their contracts: `entry` is the number of the only entry that matches, 32 where the
-- address is reached directly, and 0 where it is not reached. Without it the answer is what it was before there was a number.
use Rattle.std.proofs.Common.{◌≡◌, ℕ, Bool, true, false, cond, length, sym, refl, ap, ◌∙◌, subst, arith, Result, Ok, Err}
use contract.Lifetimes as Lifetimes
use borrow.Fn.World as World
use Rattle.tlb.specs.declared.table.Tlb.{Tlb}
use Rattle.tlb.specs.Lookup.{lookup_answer}
use Rattle.tlb.specs.Former.{unnumbered, former_lookup}
use Rattle.tlb.proofs.WhichEntry.{Only, found_only, lookup_former}
use Rattle.addr.specs.declared.access.Access.{Access}
use Rattle.addr.specs.declared.segments.Cached.{Cached}
use Rattle.addr.specs.declared.segments.Segment.{Segment}
use Rattle.addr.specs.declared.segments.Segment.TheVariants.{Direct, Mapped}
use Rattle.addr.specs.Segments.{segment_of}
use Rattle.addr.specs.Translate.{translate_answer}
use Rattle.addr.specs.Former.{former_translate}
use Rattle.addr.proofs.WhichEntry.{direct_has_32, mapped_only, translate_former}
use Rattle.rimjhodek.specs.declared.table.Looked.{Looked}
use Rattle.tlb.specs.declared.entries.Translated.{Translated}
use Rattle.tlb.specs.declared.entries.TlbFault.{TlbFault}
use Rattle.addr.specs.declared.translate.Physical.{Physical}
use Rattle.addr.specs.declared.translate.TranslateError.{TranslateError}
use Rattle.rimjhodek.specs.Numbered.{unknown}
use Rattle.rimjhodek.specs.Modes.{is_mode, access_in}
use Rattle.rimjhodek.specs.Table.{table_in, failed, looked_of}
use Rattle.rimjhodek.specs.Translation.{translated_of, via_answer}
use Rattle.rimjhodek.proofs.Scanning.{entries_long}
use Rattle.rimjhodek.proofs.TableSteps.{told_looked, looked_told, told_translated, translated_told, answers}
use Rattle.rimjhodek.specs.contracts.table.rimjhodek_lookup as lookup
use Rattle.rimjhodek.proofs.table.rimjhodek_lookup.Reads as lookup_reads
use Rattle.rimjhodek.specs.contracts.translation.rimjhodek_translate_via as translate_via
use Rattle.rimjhodek.proofs.translation.rimjhodek_translate_via.Reads as translate_via_reads

-- an answer of a lookup
pub record ByEntry (t : Tlb) (v asid : ℕ) (r : Looked) : Type 0 where
  pub found : r.error ≡ 0 → Only t v asid r.entry
  pub lost : (r.error ≡ 0 → ⊥) → r.entry ≡ 0

-- and of a translation, in segment g
pub record BySegment (t : Tlb) (v asid : ℕ) (g : Segment) (r : Looked) : Type 0 where
  pub mapped : g ≡ Mapped → r.error ≡ 0 → Only t v asid r.entry
  pub direct : (p : ℕ) (c : Cached) → g ≡ Direct p c → r.error ≡ 0 → r.entry ≡ 32
  pub lost : (r.error ≡ 0 → ⊥) → r.entry ≡ 0

module _ (t : Tlb) (long : length t.entries ≡ 32) (v asid : ℕ) (store : Bool) where
  looked_by : (l : Result Translated TlbFault) → lookup_answer t v asid store ≡ l → ByEntry t v asid (looked_of l)
  looked_by (Ok x) e = record { found = λ z. found_only t long v asid store x e; lost = λ n. absurd (n refl) }
  looked_by (Err f) e = record { found = λ z. absurd (omega (arith, z)); lost = λ n. refl }

  module _ (a : Access) where
    -- b says whether the mode's number names one
    translated_by : (b : Bool) (x : Result Physical TranslateError) → translate_answer t v asid store a ≡ x
        → BySegment t v asid (segment_of a v) (cond b (translated_of x) (failed unknown))
    translated_by true (Ok p) e =
        record {
          mapped = λ m z. mapped_only t v asid store a p e m long;
          direct = λ q c d z. direct_has_32 t v asid store a p e q c d;
          lost = λ n. absurd (n refl);
        }
    translated_by true (Err f) e =
        record { mapped = λ m z. absurd (omega (arith, z)); direct = λ q c d z. absurd (omega (arith, z)); lost = λ n. refl }
    translated_by false x e =
        record { mapped = λ m z. absurd (omega (arith, z)); direct = λ q c d z. absurd (omega (arith, z)); lost = λ n. refl }

module _ (κs : Lifetimes.Lfts 1) (a : World.ArgsD lookup.signature κs) (r : Looked) (s : _) (p : lookup_reads.Post κs a r s) where
  abbrev t : Tlb
  t = table_in a.0.now

  pub lookup_by_entry : ByEntry t a.1.0 a.1.1.0 r
  lookup_by_entry =
      subst (ByEntry t a.1.0 a.1.1.0) (sym p.0)
      (looked_by t (entries_long a.0.now) a.1.0 a.1.1.0 a.1.1.1.0 (lookup_answer t a.1.0 a.1.1.0 a.1.1.1.0) refl)

  pub lookup_was : unnumbered (told_looked r) ≡ former_lookup t a.1.0 a.1.1.0 a.1.1.1.0
  lookup_was =
      ap (λ (x : Looked). unnumbered (told_looked x)) p.0
      ∙ ap unnumbered (looked_told (lookup_answer t a.1.0 a.1.1.0 a.1.1.1.0))
      ∙ lookup_former t a.1.0 a.1.1.0 a.1.1.1.0

module _ (κs : Lifetimes.Lfts 1) (a : World.ArgsD translate_via.signature κs) (r : Looked) (s : _) (p : translate_via_reads.Post κs a r s) where
  abbrev u : Tlb
  u = table_in a.0.now

  abbrev by : Access
  by = access_in a.1.1.1.1.0

  pub translate_via_by_segment : BySegment u a.1.0 a.1.1.0 (segment_of by a.1.0) r
  unfolding via_answer
  translate_via_by_segment =
      subst (BySegment u a.1.0 a.1.1.0 (segment_of by a.1.0)) (sym p.0)
      (translated_by u (entries_long a.0.now) a.1.0 a.1.1.0 a.1.1.1.0 by (is_mode a.1.1.1.1.0.mode)
      (translate_answer u a.1.0 a.1.1.0 a.1.1.1.0 by) refl)

  pub translate_via_was : is_mode a.1.1.1.1.0.mode ≡ true
      → unnumbered (told_translated r) ≡ former_translate u a.1.0 a.1.1.0 a.1.1.1.0 by
  translate_via_was named =
      ap (λ (x : Looked). unnumbered (told_translated x))
      (p.0 ∙ answers a.0.now a.1.0 a.1.1.0 a.1.1.1.0 a.1.1.1.1.0 named)
      ∙ ap unnumbered (translated_told (translate_answer u a.1.0 a.1.1.0 a.1.1.1.0 by))
      ∙ translate_former u a.1.0 a.1.1.0 a.1.1.1.0 by
