-- The exports of the register file make a session: from the contract of an operation's export, as the checker reads it, follows that
-- the answer and the session that the words mean afterwards, beside any words of a table, are the session's own step. So what is proved
-- of sessions holds of a caller of the exports.
use Rattle.std.proofs.Common.{◌≡◌, ℕ, ◌^◌, Bool, true, false, cond, eqb, ltb, List, [], ◌∷◌, refl, ap, ◌∙◌}
use contract.Lifetimes as Lifetimes
use borrow.Fn.World as World
use Rattle.bits.specs.Field.{bit}
use Rattle.bits.specs.Told.{Told, answered, refused}
use Rattle.cop0.specs.declared.registers.Cop0.{Cop0}
use Rattle.cop0.specs.Clock.{edge_of}
use Rattle.cop0.specs.Access.{moved32}
use Rattle.cop0.specs.Advance.{moved, advance_told, advance_of}
use Rattle.session.specs.declared.op.Op.TheVariants as op
use Rattle.session.specs.Answers.{of_case, done, number}
use Rattle.session.specs.Step.{told, flag}
use Rattle.rimjhodek.specs.declared.answers.Flag.{Flag}
use Rattle.rimjhodek.specs.Answers.{flag_of}
use Rattle.rimjhodek.specs.Registers.{cop0_in}
use Rattle.rimjhodek.specs.Table.{table_in}
use Rattle.rimjhodek.specs.Sessions.{words, session_in, Whole}
use Rattle.rimjhodek.proofs.Meaning.{in_fits}
use Rattle.rimjhodek.proofs.Fitting.{dmtc0_fits, set_ip_fits, advance_fits}
use Rattle.rimjhodek.proofs.Stepping.{told_bool, Steps, unwritten, to_cop0}
use Rattle.rimjhodek.specs.contracts.registers.rimjhodek_mfc0 as mfc0
use Rattle.rimjhodek.proofs.registers.rimjhodek_mfc0.Reads as mfc0_reads
use Rattle.rimjhodek.specs.contracts.registers.rimjhodek_dmfc0 as dmfc0
use Rattle.rimjhodek.proofs.registers.rimjhodek_dmfc0.Reads as dmfc0_reads
use Rattle.rimjhodek.specs.contracts.registers.rimjhodek_mtc0 as mtc0
use Rattle.rimjhodek.proofs.registers.rimjhodek_mtc0.Reads as mtc0_reads
use Rattle.rimjhodek.specs.contracts.registers.rimjhodek_dmtc0 as dmtc0
use Rattle.rimjhodek.proofs.registers.rimjhodek_dmtc0.Reads as dmtc0_reads
use Rattle.rimjhodek.specs.contracts.clock.rimjhodek_advance as advance
use Rattle.rimjhodek.proofs.clock.rimjhodek_advance.Reads as advance_reads
use Rattle.rimjhodek.specs.contracts.interrupts.rimjhodek_set_ip as set_ip
use Rattle.rimjhodek.proofs.interrupts.rimjhodek_set_ip.Reads as set_ip_reads
use Rattle.rimjhodek.specs.contracts.interrupts.rimjhodek_interrupt_pending as interrupt_pending
use Rattle.rimjhodek.proofs.interrupts.rimjhodek_interrupt_pending.Reads as interrupt_pending_reads

-- an advance's answer as the session tells it
abbrev pub told_flag : Flag → Told
told_flag f = cond (eqb f.refused 0) (answered (bit f.is ∷ [])) (refused f.refused)

-- what is read
pub mfc0_steps : (κs : Lifetimes.Lfts 1) (a : World.ArgsD mfc0.signature κs) (r : ℕ) (s : _) (ts : List ℕ)
    → Whole (words a.0.now ts) → mfc0_reads.Post κs a r s
    → Steps (op.Mfc0 a.1.0) (words a.0.now ts) (number r) (words a.0.now ts)
mfc0_steps κs a r s ts h p = unwritten _ _ h _ (ap (λ (x : ℕ). told (number x) (session_in (words a.0.now ts))) p)

pub dmfc0_steps : (κs : Lifetimes.Lfts 1) (a : World.ArgsD dmfc0.signature κs) (r : ℕ) (s : _) (ts : List ℕ)
    → Whole (words a.0.now ts) → dmfc0_reads.Post κs a r s
    → Steps (op.Dmfc0 a.1.0) (words a.0.now ts) (number r) (words a.0.now ts)
dmfc0_steps κs a r s ts h p = unwritten _ _ h _ (ap (λ (x : ℕ). told (number x) (session_in (words a.0.now ts))) p)

pub interrupt_pending_steps : (κs : Lifetimes.Lfts 1) (a : World.ArgsD interrupt_pending.signature κs) (r : Bool) (s : _) (ts : List ℕ)
    → Whole (words a.0.now ts) → interrupt_pending_reads.Post κs a r s
    → Steps op.InterruptPending (words a.0.now ts) (told_bool r) (words a.0.now ts)
interrupt_pending_steps κs a r s ts h p = unwritten _ _ h _ (ap (λ (x : Bool). flag x (session_in (words a.0.now ts))) p)

-- what is written
pub mtc0_steps : (κs : Lifetimes.Lfts 1) (a : World.ArgsD mtc0.signature κs) (r s : _) (ts : List ℕ)
    → Whole (words a.0.now ts) → mtc0_reads.Post κs a r s
    → Steps (op.Mtc0 a.1.0 a.1.1.0) (words a.0.now ts) done (words s.0.now ts)
mtc0_steps κs a r s ts h p =
    to_cop0 _ _ h _ _ (dmtc0_fits (in_fits a.0.now h.cop0) a.1.0 (moved32 a.1.0 a.1.1.0)) refl s.0.now p

pub dmtc0_steps : (κs : Lifetimes.Lfts 1) (a : World.ArgsD dmtc0.signature κs) (r s : _) (ts : List ℕ)
    → Whole (words a.0.now ts) → dmtc0_reads.Post κs a r s
    → Steps (op.Dmtc0 a.1.0 a.1.1.0) (words a.0.now ts) done (words s.0.now ts)
dmtc0_steps κs a r s ts h p =
    to_cop0 _ _ h _ _ (dmtc0_fits (in_fits a.0.now h.cop0) a.1.0 a.1.1.0) refl s.0.now p

pub set_ip_steps : (κs : Lifetimes.Lfts 1) (a : World.ArgsD set_ip.signature κs) (r s : _) (ts : List ℕ)
    → Whole (words a.0.now ts) → set_ip_reads.Post κs a r s
    → Steps (op.SetIp a.1.0 a.1.1.0) (words a.0.now ts) done (words s.0.now ts)
set_ip_steps κs a r s ts h p =
    to_cop0 _ _ h _ _ (set_ip_fits (in_fits a.0.now h.cop0) a.1.0 a.1.1.0) refl s.0.now p

-- nothing of an advance's answer is lost
flag_told : (c : Cop0) (n m : ℕ) → told_flag (flag_of (advance_told c n m)) ≡ advance_told c n m
unfolding advance_told
flag_told c n m = go (ltb n (2 ^ 32)) (edge_of (moved c n m))
  where
    go : (b e : Bool) → told_flag (flag_of (cond b (answered (bit e ∷ [])) (refused 5))) ≡ cond b (answered (bit e ∷ [])) (refused 5)
    go true true = refl
    go true false = refl
    go false e = refl

pub advance_steps : (κs : Lifetimes.Lfts 1) (a : World.ArgsD advance.signature κs) (r : Flag) (s : _) (ts : List ℕ)
    → Whole (words a.0.now ts) → advance_reads.Post κs a r s
    → Steps (op.Advance a.1.0 a.1.1.0) (words a.0.now ts) (of_case 7 (told_flag r)) (words s.0.now ts)
advance_steps κs a r s ts h p =
    let c = cop0_in a.0.now in
    to_cop0 _ _ h _ _ (advance_fits (in_fits a.0.now h.cop0) a.1.0 a.1.1.0)
    (ap (λ (x : Told). told (of_case 7 x) (record { cop0 = advance_of c a.1.0 a.1.1.0; tlb = table_in ts }))
    (ap told_flag p.0 ∙ flag_told c a.1.0 a.1.1.0))
    s.0.now p.1
