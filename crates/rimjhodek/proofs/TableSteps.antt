-- The exports of the TLB make a session: from the contract of an operation's export, as the checker reads it, follows that the answer
-- and the session that the words mean afterwards are the session's own step.
use Rattle.std.proofs.Common.{◌≡◌, ℕ, ◌-◌, ◌%◌, Bool, true, false, cond, not, eqb, List, [], ◌∷◌, refl, ap, ◌∙◌, arith, Result, Ok, Err}
use contract.Lifetimes as Lifetimes
use borrow.Fn.World as World
use Rattle.bits.specs.Field.{bit}
use Rattle.bits.specs.Told.{Told, answered}
use Rattle.tlb.specs.declared.entries.TlbFault.TheVariants as fault
use Rattle.tlb.specs.declared.table.Tlb.{Tlb}
use Rattle.tlb.specs.Entries.{told_lookup}
use Rattle.tlb.specs.Lookup.{lookup_answer, lookup_table}
use Rattle.tlb.specs.Micro.{probed_of}
use Rattle.tlb.specs.Moves.{entry_of}
use Rattle.tlb.proofs.Sound.{entry_sound}
use Rattle.addr.specs.declared.segments.Cached.{Cached}
use Rattle.addr.specs.declared.segments.Cached.TheVariants.{Yes, No}
use Rattle.addr.specs.declared.translate.TranslateError.TheVariants as error
use Rattle.addr.specs.Answers.{told_translate}
use Rattle.addr.specs.Translate.{translate_answer, translate_table}
use Rattle.session.specs.declared.op.Op.{Op}
use Rattle.session.specs.declared.op.Op.TheVariants as op
use Rattle.session.specs.Answers.{of_case, done, number}
use Rattle.session.specs.Step.{told, flag, step_of}
use Rattle.rimjhodek.specs.declared.table.Looked.{Looked}
use Rattle.rimjhodek.specs.declared.modes.By.{By}
use Rattle.tlb.specs.declared.entries.Translated.{Translated}
use Rattle.tlb.specs.declared.entries.TlbFault.{TlbFault}
use Rattle.addr.specs.declared.translate.Physical.{Physical}
use Rattle.addr.specs.declared.translate.TranslateError.{TranslateError}
use Rattle.rimjhodek.specs.Registers.{cop0_in}
use Rattle.rimjhodek.specs.Numbered.{unknown}
use Rattle.rimjhodek.specs.Modes.{is_mode, access_in}
use Rattle.rimjhodek.specs.Table.{table_in, put_micro, put_entry, failed, looked_of}
use Rattle.rimjhodek.specs.Sessions.{Words, words, session_in, Whole}
use Rattle.rimjhodek.specs.Translation.{translated_of, via_answer, via_table}
use Rattle.rimjhodek.proofs.Slots.{at_home}
use Rattle.rimjhodek.proofs.Meaning.{in_fits}
use Rattle.rimjhodek.proofs.Entering.{put_long}
use Rattle.rimjhodek.proofs.Tables.{Fits, looked_fits, translated_fits, probed_fits, filled_fits, written_fits}
use Rattle.rimjhodek.proofs.Changing.{only_read, only_probed}
use Rattle.rimjhodek.proofs.Fitting.{only_fits}
use Rattle.rimjhodek.proofs.Exact.{exact_entry}
use Rattle.rimjhodek.proofs.Stepping.{told_bool, Steps, unwritten, to_cop0, to_table}
use Rattle.rimjhodek.specs.contracts.table.rimjhodek_lookup as lookup
use Rattle.rimjhodek.proofs.table.rimjhodek_lookup.Reads as lookup_reads
use Rattle.rimjhodek.specs.contracts.table.rimjhodek_jtlb_has_match as jtlb_has_match
use Rattle.rimjhodek.proofs.table.rimjhodek_jtlb_has_match.Reads as jtlb_has_match_reads
use Rattle.rimjhodek.specs.contracts.table.rimjhodek_itlb_probe as itlb_probe
use Rattle.rimjhodek.proofs.table.rimjhodek_itlb_probe.Reads as itlb_probe_reads
use Rattle.rimjhodek.specs.contracts.table.rimjhodek_itlb_fill as itlb_fill
use Rattle.rimjhodek.proofs.table.rimjhodek_itlb_fill.Reads as itlb_fill_reads
use Rattle.rimjhodek.proofs.table.rimjhodek_page_size.Reads as page_size_reads
use Rattle.rimjhodek.proofs.table.rimjhodek_pair_size.Reads as pair_size_reads
use Rattle.rimjhodek.specs.contracts.moves.rimjhodek_write_entry as write_entry
use Rattle.rimjhodek.proofs.moves.rimjhodek_write_entry.Reads as write_entry_reads
use Rattle.rimjhodek.specs.contracts.moves.rimjhodek_read_entry as read_entry
use Rattle.rimjhodek.proofs.moves.rimjhodek_read_entry.Reads as read_entry_reads
use Rattle.rimjhodek.specs.contracts.moves.rimjhodek_probe as probe
use Rattle.rimjhodek.proofs.moves.rimjhodek_probe.Reads as probe_reads
use Rattle.rimjhodek.specs.contracts.translation.rimjhodek_translate_via as translate_via
use Rattle.rimjhodek.proofs.translation.rimjhodek_translate_via.Reads as translate_via_reads

-- a lookup's answer as the session tells it
abbrev pub told_looked : Looked → Told
told_looked r = answered (cond (eqb r.error 0) (r.addr ∷ bit r.uncached ∷ r.entry ∷ []) ((r.error - 1) ∷ []))

pub looked_told : (a : Result Translated TlbFault) → told_looked (looked_of a) ≡ told_lookup a
looked_told (Ok t) = refl
looked_told (Err fault.Refill) = refl
looked_told (Err fault.Invalid) = refl
looked_told (Err fault.Modified) = refl

-- and a translation's, which tells whether the page is cached
abbrev pub told_translated : Looked → Told
told_translated r = answered (cond (eqb r.error 0) (r.addr ∷ bit (not r.uncached) ∷ r.entry ∷ []) ((r.error - 1) ∷ []))

pub translated_told : (a : Result Physical TranslateError) → told_translated (translated_of a) ≡ told_translate a
translated_told (Ok p) = go p.cached
  where
    reached : Cached → Result Physical TranslateError
    reached c = Ok (record { addr = p.addr; cached = c; entry = p.entry })

    go : (c : Cached) → told_translated (translated_of (reached c)) ≡ told_translate (reached c)
    go Yes = refl
    go No = refl
translated_told (Err error.Address) = refl
translated_told (Err (error.Tlb fault.Refill)) = refl
translated_told (Err (error.Tlb fault.Invalid)) = refl
translated_told (Err (error.Tlb fault.Modified)) = refl

-- what needs no words
pub page_size_steps : (a : ℕ × Unit {0}) (r : ℕ) (w : Words) → Whole w → page_size_reads.Post tt a r a → Steps (op.PageSize a.0) w (number r) w
page_size_steps a r w h p = unwritten _ w h _ (ap (λ (x : ℕ). told (number x) (session_in w)) p)

pub pair_size_steps : (a : ℕ × Unit {0}) (r : ℕ) (w : Words) → Whole w → pair_size_reads.Post tt a r a → Steps (op.PairSize a.0) w (number r) w
pair_size_steps a r w h p = unwritten _ w h _ (ap (λ (x : ℕ). told (number x) (session_in w)) p)

-- what is read
pub jtlb_has_match_steps : (κs : Lifetimes.Lfts 1) (a : World.ArgsD jtlb_has_match.signature κs) (r : Bool) (s : _) (cs : List ℕ)
    → Whole (words cs a.0.now) → jtlb_has_match_reads.Post κs a r s
    → Steps (op.JtlbHasMatch a.1.0 a.1.1.0) (words cs a.0.now) (told_bool r) (words cs a.0.now)
jtlb_has_match_steps κs a r s cs h p = unwritten _ _ h _ (ap (λ (x : Bool). flag x (session_in (words cs a.0.now))) p)

-- a table whose entries stay
module _ (o : Op) (cs ts : List ℕ) (h : Whole (words cs ts)) (a : Told) where
  to_micro : (t : Tlb) → Fits ts t → told a (record { cop0 = cop0_in cs; tlb = t }) ≡ step_of o (session_in (words cs ts))
      → (ts' : List ℕ) → ts' ≡ put_micro ts t → Steps o (words cs ts) a (words cs ts')
  to_micro = to_table o (words cs ts) h a ts h.tlb (λ x. x)

pub lookup_steps : (κs : Lifetimes.Lfts 1) (a : World.ArgsD lookup.signature κs) (r : Looked) (s : _) (cs : List ℕ)
    → Whole (words cs a.0.now) → lookup_reads.Post κs a r s
    → Steps (op.Lookup a.1.0 a.1.1.0 a.1.1.1.0) (words cs a.0.now) (of_case 4 (told_looked r)) (words cs s.0.now)
lookup_steps κs a r s cs h p =
    let ts = a.0.now in
    to_micro _ cs ts h _ _ (looked_fits ts a.1.0 a.1.1.0)
    (ap (λ (x : Told). told (of_case 4 x) (record { cop0 = cop0_in cs; tlb = lookup_table (table_in ts) a.1.0 a.1.1.0 }))
    (ap told_looked p.0 ∙ looked_told (lookup_answer (table_in ts) a.1.0 a.1.1.0 a.1.1.1.0)))
    s.0.now p.1

pub itlb_probe_steps : (κs : Lifetimes.Lfts 1) (a : World.ArgsD itlb_probe.signature κs) (r : Bool) (s : _) (cs : List ℕ)
    → Whole (words cs a.0.now) → itlb_probe_reads.Post κs a r s
    → Steps (op.ItlbProbe a.1.0 a.1.1.0) (words cs a.0.now) (told_bool r) (words cs s.0.now)
itlb_probe_steps κs a r s cs h p =
    let ts = a.0.now in
    to_micro _ cs ts h _ _ (probed_fits ts a.1.0 a.1.1.0)
    (ap (λ (x : Bool). flag x (record { cop0 = cop0_in cs; tlb = (probed_of (table_in ts) a.1.0 a.1.1.0).tlb })) p.0)
    s.0.now p.1

pub itlb_fill_steps : (κs : Lifetimes.Lfts 1) (a : World.ArgsD itlb_fill.signature κs) (r s : _) (cs : List ℕ)
    → Whole (words cs a.0.now) → itlb_fill_reads.Post κs a r s
    → Steps (op.ItlbFill a.1.0 a.1.1.0) (words cs a.0.now) done (words cs s.0.now)
itlb_fill_steps κs a r s cs h p = to_micro _ cs a.0.now h _ _ (filled_fits a.0.now a.1.0 a.1.1.0) refl s.0.now p

-- an entry into the table
pub write_entry_steps : (κs : Lifetimes.Lfts 2) (a : World.ArgsD write_entry.signature κs) (r s : _)
    → Whole (words a.1.1.0.now a.0.now) → write_entry_reads.Post κs a r s
    → Steps (op.WriteEntry a.1.0) (words a.1.1.0.now a.0.now) done (words a.1.1.0.now s.0.now)
write_entry_steps κs a r s h p =
    let ts = a.0.now in
    let c = cop0_in a.1.1.0.now in
    to_table _ _ h _ (put_entry ts (a.1.0 % 32) (entry_of c)) (put_long ts (a.1.0 % 32) (entry_of c) ∙ h.tlb)
    (λ x. exact_entry ts h.tlb x (a.1.0 % 32) (omega arith) (entry_of c) (entry_sound c))
    _ (written_fits ts h.tlb a.1.0 c) refl s.0.now p

-- and out of it, into 38 words
pub read_entry_steps : (κs : Lifetimes.Lfts 2) (a : World.ArgsD read_entry.signature κs) (r s : _)
    → Whole (words a.1.1.0.now a.0.now) → read_entry_reads.Post κs a r s
    → Steps (op.ReadEntry a.1.0) (words a.1.1.0.now a.0.now) done (words s.1.1.0.now a.0.now)
read_entry_steps κs a r s h p =
    let cs = a.1.1.0.now in
    to_cop0 _ _ h _ _ (only_fits (in_fits cs h.cop0) (only_read (table_in a.0.now) a.1.0 (cop0_in cs))) refl s.1.1.0.now p

pub probe_steps : (κs : Lifetimes.Lfts 2) (a : World.ArgsD probe.signature κs) (r s : _)
    → Whole (words a.1.0.now a.0.now) → probe_reads.Post κs a r s
    → Steps op.Probe (words a.1.0.now a.0.now) done (words s.1.0.now a.0.now)
probe_steps κs a r s h p =
    let cs = a.1.0.now in
    to_cop0 _ _ h _ _ (only_fits (in_fits cs h.cop0) (only_probed (table_in a.0.now) (cop0_in cs))) refl s.1.0.now p

-- a translation by a mode's number that names one
module _ (ws : List ℕ) (v asid : ℕ) (store : Bool) (b : By) where
  abbrev t : Tlb
  t = table_in ws

  pub answers : is_mode b.mode ≡ true → via_answer t v asid store b ≡ translated_of (translate_answer t v asid store (access_in b))
  unfolding via_answer
  answers named = ap (λ (x : Bool). cond x (translated_of (translate_answer t v asid store (access_in b))) (failed unknown)) named

  leaves : is_mode b.mode ≡ true → via_table t v asid b ≡ translate_table t v asid (access_in b)
  unfolding via_table
  leaves named = ap (λ (x : Bool). cond x (translate_table t v asid (access_in b)) t) named

  refuses : is_mode b.mode ≡ false → via_answer t v asid store b ≡ failed unknown
  unfolding via_answer
  refuses unnamed = ap (λ (x : Bool). cond x (translated_of (translate_answer t v asid store (access_in b))) (failed unknown)) unnamed

  stays : is_mode b.mode ≡ false → via_table t v asid b ≡ t
  unfolding via_table
  stays unnamed = ap (λ (x : Bool). cond x (translate_table t v asid (access_in b)) t) unnamed

pub translate_via_steps : (κs : Lifetimes.Lfts 1) (a : World.ArgsD translate_via.signature κs) (r : Looked) (s : _) (cs : List ℕ)
    → Whole (words cs a.0.now) → is_mode a.1.1.1.1.0.mode ≡ true → translate_via_reads.Post κs a r s
    → Steps (op.TranslateVia a.1.0 a.1.1.0 a.1.1.1.0 (access_in a.1.1.1.1.0)) (words cs a.0.now)
    (of_case 5 (told_translated r)) (words cs s.0.now)
translate_via_steps κs a r s cs h named p =
    let ts = a.0.now in
    let b = a.1.1.1.1.0 in
    to_micro _ cs ts h _ _ (translated_fits ts a.1.0 a.1.1.0 (access_in b))
    (ap (λ (x : Told). told (of_case 5 x) (record { cop0 = cop0_in cs; tlb = translate_table (table_in ts) a.1.0 a.1.1.0 (access_in b) }))
    (ap told_translated (p.0 ∙ answers ts a.1.0 a.1.1.0 a.1.1.1.0 b named)
    ∙ translated_told (translate_answer (table_in ts) a.1.0 a.1.1.0 a.1.1.1.0 (access_in b))))
    s.0.now (p.1 ∙ ap (put_micro ts) (leaves ts a.1.0 a.1.1.0 a.1.1.1.0 b named))

-- by one that names none it is refused, and no word changes
pub translate_via_refused : (κs : Lifetimes.Lfts 1) (a : World.ArgsD translate_via.signature κs) (r : Looked) (s : _)
    → is_mode a.1.1.1.1.0.mode ≡ false → translate_via_reads.Post κs a r s
    → (r ≡ failed unknown) × (s.0.now ≡ a.0.now)
translate_via_refused κs a r s unnamed p =
    let ws = a.0.now in
    let b = a.1.1.1.1.0 in (
      p.0 ∙ refuses ws a.1.0 a.1.1.0 a.1.1.1.0 b unnamed,
      p.1 ∙ ap (put_micro ws) (stays ws a.1.0 a.1.1.0 a.1.1.1.0 b unnamed) ∙ at_home ws,
    )
