-- A translation, by the segment of the address; and one in the kernel's KSEG0 or KSEG1.
use Rattle.std.proofs.Common.{◌≡◌, ℕ, Bool, true, false, not, List, sym, refl, ap, ◌∙◌, Result, Ok, Err}
use Rattle.bits.specs.Field.{field_of}
use Rattle.tlb.specs.Lookup.{lookup_answer, lookup_table}
use Rattle.addr.specs.declared.access.Mode.TheVariants.{Kernel}
use Rattle.addr.specs.declared.access.Access.{Access}
use Rattle.addr.specs.declared.segments.Cached.{Cached}
use Rattle.addr.specs.declared.segments.Segment.TheVariants.{Direct, Mapped, Invalid}
use Rattle.addr.specs.Segments.{inside, segment_of}
use Rattle.addr.specs.Translate.{mapped_answer, translate_answer, translate_table}
use Rattle.rimjhodek.specs.declared.modes.By.{By}
use Rattle.rimjhodek.specs.declared.table.Looked.{Looked}
use Rattle.tlb.specs.declared.entries.Translated.{Translated}
use Rattle.tlb.specs.declared.entries.TlbFault.{TlbFault}
use Rattle.rimjhodek.specs.Modes.{is_mode, is_cached, access_in, mode_in}
use Rattle.rimjhodek.specs.Table.{table_in, put_micro, failed, looked_of}
use Rattle.rimjhodek.specs.Translation.{translated_of, via_answer, via_table, direct, unmapped}
use Rattle.rimjhodek.proofs.Segments.{kseg, kseg_segment}
use Rattle.rimjhodek.proofs.Slots.{at_home}

-- a lookup's answer crosses as the translation's that it becomes
mapped_crosses : (a : Result Translated TlbFault) → looked_of a ≡ translated_of (mapped_answer a)
mapped_crosses (Ok t) = go t.uncached
  where
    go : (b : Bool) → looked_of (Ok (record { addr = t.addr; uncached = b; entry = t.entry }))
        ≡ translated_of (mapped_answer (Ok (record { addr = t.addr; uncached = b; entry = t.entry })))
    go true = refl
    go false = refl
mapped_crosses (Err f) = refl

module _ (ws : List ℕ) (v asid : ℕ) (store : Bool) (a : Access) where
  -- what a translation must answer and leave
  abbrev Translates : Looked → List ℕ → Type 0
  Translates r ws' =
      (r ≡ translated_of (translate_answer (table_in ws) v asid store a)) × (ws' ≡ put_micro ws (translate_table (table_in ws) v asid a))

  pub directly : (p : ℕ) (c : Cached) → segment_of a v ≡ Direct p c → Translates (direct p (not (is_cached c))) ws
  unfolding translate_answer translate_table
  directly p c e = rw e (refl, sym (at_home ws))

  pub by_table : segment_of a v ≡ Mapped → (r : Looked) (ws' : List ℕ) → r ≡ looked_of (lookup_answer (table_in ws) v asid store)
      → ws' ≡ put_micro ws (lookup_table (table_in ws) v asid) → Translates r ws'
  unfolding translate_answer translate_table
  by_table e r ws' p q = rw e (p ∙ mapped_crosses (lookup_answer (table_in ws) v asid store), q)

  pub nowhere : segment_of a v ≡ Invalid → Translates (failed 4) ws
  unfolding translate_answer translate_table
  nowhere e = rw e (refl, sym (at_home ws))

-- KSEG0 and KSEG1 in kernel mode
module _ (ws : List ℕ) (v asid : ℕ) (store : Bool) (a : By) (kernel : a.mode ≡ 0) where
  abbrev Goes : Looked → Type 0
  Goes r = (r ≡ via_answer (table_in ws) v asid store a) × (ws ≡ put_micro ws (via_table (table_in ws) v asid a))

  mode_is : (access_in a).mode ≡ Kernel
  unfolding mode_in
  mode_is = ap mode_in kernel

  pub in_kseg : (c : Cached) → inside (kseg c).first (kseg c).last v ≡ true → Goes (unmapped v (not (is_cached c)))
  unfolding via_answer via_table
  in_kseg c e =
      let named : is_mode a.mode ≡ true = ap is_mode kernel in
      rw named (directly ws v asid store (access_in a) (field_of v 28 0) c (kseg_segment c (access_in a) v mode_is e))
