-- Taking an exception and returning from one are the session's own steps: from the contract of the export, as the checker reads it,
-- follows that the answer and the session that the words mean afterwards, beside any words of a table, are those of the step.
use Rattle.std.proofs.Common.{◌≡◌, ℕ, Bool, true, false, cond, List, length, ap, ◌∙◌}
use contract.Lifetimes as Lifetimes
use borrow.Fn.World as World
use Rattle.bits.specs.Told.{answered, refused}
use Rattle.exception.specs.declared.epilogue.Dispatch.{Dispatch}
use Rattle.exception.specs.declared.epilogue.Dispatched.{Dispatched}
use Rattle.exception.specs.Taking.{dispatch_of}
use Rattle.exception.specs.Returning.{eret_of}
use Rattle.exception.proofs.Untouched.{dispatch_only, eret_only}
use Rattle.session.specs.declared.op.Op.TheVariants as op
use Rattle.session.specs.declared.op.Answer.TheVariants as answer
use Rattle.session.specs.Answers.{told_answer, number}
use Rattle.session.specs.Step.{told}
use Rattle.rimjhodek.specs.declared.exceptions.Exc.{Exc}
use Rattle.rimjhodek.specs.declared.exceptions.Taken.{Taken}
use Rattle.rimjhodek.specs.Registers.{cop0_in, put_in}
use Rattle.rimjhodek.specs.Table.{table_in}
use Rattle.rimjhodek.specs.Numbered.{unknown, if_named}
use Rattle.rimjhodek.specs.Exceptions.{is_exception, exception_of, dispatch_values, taken_of, dispatch_told, dispatched_of}
use Rattle.rimjhodek.specs.Sessions.{words, Whole}
use Rattle.rimjhodek.proofs.Meaning.{home, in_fits}
use Rattle.rimjhodek.proofs.Fitting.{only_fits}
use Rattle.rimjhodek.proofs.Stepping.{Steps, to_cop0}
use Rattle.rimjhodek.specs.contracts.exceptions.rimjhodek_dispatch as dispatch
use Rattle.rimjhodek.proofs.exceptions.rimjhodek_dispatch.Reads as dispatch_reads
use Rattle.rimjhodek.specs.contracts.exceptions.rimjhodek_eret as eret
use Rattle.rimjhodek.proofs.exceptions.rimjhodek_eret.Reads as eret_reads

-- the vector and the stall of an answer
abbrev pub dispatch_in : Taken → Dispatch
dispatch_in r = record { vector = r.vector; stall_cycles = r.stall_cycles }

module _ (ws : List ℕ) (l : length ws ≡ 38) (e : Exc) (pc : ℕ) (slot : Bool) (bad : ℕ) where
  abbrev d : Dispatched
  d = dispatch_of (cop0_in ws) (exception_of e) pc slot bad

  abbrev after : List ℕ
  after = put_in ws (dispatched_of (cop0_in ws) e pc slot bad)

  abbrev answer_of : Taken
  answer_of = taken_of (dispatch_told (cop0_in ws) e pc slot bad)

  -- of an exception that is named
  module _ (named : is_exception e ≡ true) where
    answers : answer_of ≡ taken_of (answered (dispatch_values d.dispatch))
    unfolding dispatch_told
    answers = ap (λ (b : Bool). taken_of (if_named b (dispatch_values d.dispatch))) named

    puts : after ≡ put_in ws d.cop0
    unfolding dispatched_of
    puts = ap (λ (b : Bool). put_in ws (cond b d.cop0 (cop0_in ws))) named

  -- of none
  module _ (unnamed : is_exception e ≡ false) where
    refuses : answer_of ≡ taken_of (refused unknown)
    unfolding dispatch_told
    refuses = ap (λ (b : Bool). taken_of (if_named b (dispatch_values d.dispatch))) unnamed

    stays : after ≡ ws
    unfolding dispatched_of
    stays = ap (λ (b : Bool). put_in ws (cond b d.cop0 (cop0_in ws))) unnamed ∙ home ws l

pub dispatch_steps : (κs : Lifetimes.Lfts 1) (a : World.ArgsD dispatch.signature κs) (r : Taken) (s : _) (ts : List ℕ)
    → Whole (words a.0.now ts) → is_exception a.1.0 ≡ true → dispatch_reads.Post κs a r s
    → Steps (op.Dispatch (exception_of a.1.0) a.1.1.0 a.1.1.1.0 a.1.1.1.1.0) (words a.0.now ts)
    (told_answer (answer.Vector (dispatch_in r))) (words s.0.now ts)
    × (r.refused ≡ 0)
dispatch_steps κs a r s ts h named p =
    let cs = a.0.now in
    let c = (dispatch_of (cop0_in cs) (exception_of a.1.0) a.1.1.0 a.1.1.1.0 a.1.1.1.1.0).cop0 in
    let x = p.0 ∙ answers cs h.cop0 a.1.0 a.1.1.0 a.1.1.1.0 a.1.1.1.1.0 named in (
      to_cop0 _ _ h _ c
          (only_fits (in_fits cs h.cop0) (dispatch_only (cop0_in cs) (exception_of a.1.0) a.1.1.0 a.1.1.1.0 a.1.1.1.1.0))
          (ap (λ (x : Taken). told (told_answer (answer.Vector (dispatch_in x))) (record { cop0 = c; tlb = table_in ts })) x)
          s.0.now (p.1 ∙ puts cs h.cop0 a.1.0 a.1.1.0 a.1.1.1.0 a.1.1.1.1.0 named),
      ap (λ (x : Taken). x.refused) x,
    )

-- a number that names no exception is refused, and no word changes
pub dispatch_refused : (κs : Lifetimes.Lfts 1) (a : World.ArgsD dispatch.signature κs) (r : Taken) (s : _)
    → length a.0.now ≡ 38 → is_exception a.1.0 ≡ false → dispatch_reads.Post κs a r s
    → (r ≡ taken_of (refused unknown)) × (s.0.now ≡ a.0.now)
dispatch_refused κs a r s l unnamed p = (
  p.0 ∙ refuses a.0.now l a.1.0 a.1.1.0 a.1.1.1.0 a.1.1.1.1.0 unnamed,
  p.1 ∙ stays a.0.now l a.1.0 a.1.1.0 a.1.1.1.0 a.1.1.1.1.0 unnamed,
)

pub eret_steps : (κs : Lifetimes.Lfts 1) (a : World.ArgsD eret.signature κs) (r : ℕ) (s : _) (ts : List ℕ)
    → Whole (words a.0.now ts) → eret_reads.Post κs a r s
    → Steps op.Eret (words a.0.now ts) (number r) (words s.0.now ts)
eret_steps κs a r s ts h p =
    let c = cop0_in a.0.now in
    to_cop0 _ _ h _ _ (only_fits (in_fits a.0.now h.cop0) (eret_only c))
    (ap (λ (x : ℕ). told (number x) (record { cop0 = (eret_of c).cop0; tlb = table_in ts })) p.0)
    s.0.now p.1
