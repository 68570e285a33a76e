-- MEMBERS OF A ROOM WHO CALL THE EXPORTS. A member's state is its words. Its calls, one after the other, each fitting the contract of
-- the export as the checker reads it, are a session's run: so `session`'s theorem of rooms is one about the exports.
--
-- 1. `calls_are_the_run`: what is answered, and what the words mean at the end, is the run of the operations.
-- 2. `calls_exact`: from words in which no bit is set that means nothing, no call sets one.
-- 3. `same_words`: one member advances at once, another in pieces with the same totals; whatever they called before and call after,
--    their WORDS are equal, they are told as many timer edges (`same_edges`), and `answers_are` and `session`'s `Rooms` say the rest.
-- 4. The first use is members who start by `rimjhodek_session_new`: `new_starts`, `members_alike`.
use Rattle.std.proofs.Common.{◌≡◌, ◌^◌, ◌<◌, List, [], ◌∷◌, ◌++◌, sym, refl, ap, ◌∙◌, subst, ap₂}
use contract.Lifetimes as Lifetimes
use borrow.Fn.World as World
use Rattle.bits.specs.Told.{Told}
use Rattle.cop0.specs.declared.registers.Cop0.{Cop0}
use Rattle.cop0.specs.Record as cop0
use Rattle.cop0.specs.Cut.{Piece, all_counts, all_moves}
use Rattle.cop0.specs.Machine.{Steady}
use Rattle.cop0.proofs.Steady.{fresh_steady}
use Rattle.tlb.specs.declared.table.Tlb.{Tlb}
use Rattle.tlb.specs.Table.{fresh_table}
use Rattle.session.specs.declared.session.Session.{Session}
use Rattle.session.specs.declared.op.Op.{Op}
use Rattle.session.specs.declared.op.Op.TheVariants as op
use Rattle.session.specs.Record.{fresh}
use Rattle.session.specs.Step.{Outcome}
use Rattle.session.specs.Run.{Ran, preceded, run_by, run, advances, edges_in}
use Rattle.session.proofs.Rooms as rooms
use Rattle.rimjhodek.specs.Registers.{blank, cop0_words}
use Rattle.rimjhodek.specs.Table.{table_words}
use Rattle.rimjhodek.specs.Sessions.{Words, words, session_in, session_words, Whole, Exact}
use Rattle.rimjhodek.proofs.Meaning as registers
use Rattle.rimjhodek.proofs.Fitting.{fresh_fits}
use Rattle.rimjhodek.proofs.Tables as tables
use Rattle.rimjhodek.proofs.Calls.{Call, call_steps}
use Rattle.rimjhodek.specs.contracts.sessions.rimjhodek_session_new as session_new
use Rattle.rimjhodek.proofs.sessions.rimjhodek_session_new.Reads as session_new_reads

-- what a call answered, and the words that it left
pub record Left : Type 0 where
  pub answer : Told
  pub words : Words

-- calls one after the other, each lent the words that the one before left
unfoldable pub Called : List Op → Words → List Left → Type 0
Called [] w [] = Unit {0}
Called [] w (r ∷ rs) = ⊥
Called (o ∷ os) w [] = ⊥
Called (o ∷ os) w (r ∷ rs) = Call o w r.answer r.words × Called os r.words rs

unfoldable pub left : Words → List Left → Words
left w [] = w
left w (r ∷ rs) = left r.words rs

unfoldable pub answers : List Left → List Told
answers [] = []
answers (r ∷ rs) = r.answer ∷ answers rs

pub calls_are_the_run : (os : List Op) (w : Words) → Whole w → (rs : List Left) → Called os w rs
    → record { session = session_in (left w rs); answers = answers rs } ≡ run os (session_in w)
unfolding run_by Called left answers
calls_are_the_run [] w h [] c = refl
calls_are_the_run [] w h (r ∷ rs) c = elim c [ ]
calls_are_the_run (o ∷ os) w h [] c = elim c [ ]
calls_are_the_run (o ∷ os) w h (r ∷ rs) (call, rest) =
    let s = call_steps h call in
    ap (preceded r.answer) (calls_are_the_run os r.words s.whole rs rest)
    ∙ ap (λ (p : Outcome). preceded p.answer (run os p.session)) s.step

pub calls_exact : (os : List Op) (w : Words) → Whole w → Exact w → (rs : List Left) → Called os w rs → Exact (left w rs)
unfolding Called left
calls_exact [] w h x [] c = x
calls_exact [] w h x (r ∷ rs) c = elim c [ ]
calls_exact (o ∷ os) w h x [] c = elim c [ ]
calls_exact (o ∷ os) w h x (r ∷ rs) (call, rest) =
    let s = call_steps h call in
    calls_exact os r.words s.whole (s.exact x) rs rest

-- words that are just those of what they mean are the same where they mean the same
pub same_meaning : (w v : Words) → Exact w → Exact v → session_in w ≡ session_in v → w ≡ v
same_meaning w v x y e =
    ap₂ words x.cop0 x.tlb ∙ ap session_words e ∙ sym (ap₂ words y.cop0 y.tlb)

-- one advance, or pieces of it
module _ (w : Words) (h : Whole w) (k : Steady (session_in w).cop0) (before after : List Op) (ps : List Piece)
    (small : all_counts ps < 2 ^ 32) (rs rs' : List Left)
    (one : Called (before ++ (op.Advance (all_counts ps) (all_moves ps) ∷ after)) w rs)
    (cut : Called (before ++ (advances ps ++ after)) w rs') where
  ran_one : record { session = session_in (left w rs); answers = answers rs }
      ≡ rooms.in_one (rooms.one (session_in w) k before after ps small)
  ran_one =
      calls_are_the_run (before ++ (op.Advance (all_counts ps) (all_moves ps) ∷ after)) w h rs one
      ∙ rooms.parts_are before (op.Advance (all_counts ps) (all_moves ps) ∷ []) after (session_in w)

  ran_cut : record { session = session_in (left w rs'); answers = answers rs' }
      ≡ rooms.in_one (rooms.cut (session_in w) k before after ps small)
  ran_cut =
      calls_are_the_run (before ++ (advances ps ++ after)) w h rs' cut
      ∙ rooms.parts_are before (advances ps) after (session_in w)

  pub same_session : session_in (left w rs) ≡ session_in (left w rs')
  same_session =
      ap (λ (r : Ran). r.session) ran_one
      ∙ rooms.same_session (session_in w) k before after ps small
      ∙ sym (ap (λ (r : Ran). r.session) ran_cut)

  pub same_words : Exact w → left w rs ≡ left w rs'
  same_words x =
      same_meaning (left w rs) (left w rs')
      (calls_exact (before ++ (op.Advance (all_counts ps) (all_moves ps) ∷ after)) w h x rs one)
      (calls_exact (before ++ (advances ps ++ after)) w h x rs' cut)
      same_session

  -- the answers are the parts of the two runs, of which `session`'s `Rooms` says that they agree
  pub answers_are : (answers rs ≡ (rooms.in_one (rooms.one (session_in w) k before after ps small)).answers)
      × (answers rs' ≡ (rooms.in_one (rooms.cut (session_in w) k before after ps small)).answers)
  answers_are = (ap (λ (r : Ran). r.answers) ran_one, ap (λ (r : Ran). r.answers) ran_cut)

  -- and both members are told as many timer edges
  pub same_edges : edges_in (answers rs) ≡ edges_in (answers rs')
  same_edges =
      ap edges_in answers_are.0
      ∙ rooms.all_edges (session_in w) k before after ps small
      ∙ sym (ap edges_in answers_are.1)

-- THE FRESH SESSION: a member who starts by the export has its words
pub record Starts (w : Words) : Type 0 where
  pub whole : Whole w
  pub exact : Exact w
  pub means : session_in w ≡ fresh

starts : Starts (words (cop0_words cop0.fresh) (table_words fresh_table))
starts =
    let back = registers.in_put blank cop0.fresh fresh_fits in
    record {
      whole = record { cop0 = registers.long_put blank cop0.fresh fresh_fits; tlb = tables.long_fresh };
      exact = record { cop0 = ap cop0_words (sym back); tlb = ap table_words (sym tables.in_fresh) };
      means = ap₂ (λ (c : Cop0) (t : Tlb). record { cop0 = c; tlb = t }) back tables.in_fresh;
    }

pub new_starts : (κs : Lifetimes.Lfts 2) (a : World.ArgsD session_new.signature κs) (s : _) → session_new_reads.Post κs a tt s
    → Starts (words s.0.now s.1.0.now)
new_starts κs a s p = subst Starts (sym (ap₂ words p.0 p.1)) starts

-- so that however such members cut their time, their words stay equal
pub members_alike : (w : Words) → Starts w → (before after : List Op) (ps : List Piece) → all_counts ps < 2 ^ 32 → (rs rs' : List Left)
    → Called (before ++ (op.Advance (all_counts ps) (all_moves ps) ∷ after)) w rs → Called (before ++ (advances ps ++ after)) w rs'
    → left w rs ≡ left w rs'
members_alike w n before after ps small rs rs' one cut =
    same_words w n.whole (subst (λ (s : Session). Steady s.cop0) (sym n.means) fresh_steady) before after ps small rs rs' one cut n.exact
