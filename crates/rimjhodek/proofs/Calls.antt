-- Calls of the exports, a case for each: what was lent, answered and left fits the export's contract, as the checker reads it. Every
-- call is a step of the session that the words mean.
use Rattle.std.proofs.Common.{◌≡◌, ℕ, ◌%◌, Bool, true, List, sym, refl, ap, arith}
use contract.Lifetimes as Lifetimes
use borrow.Fn.World as World
use Rattle.bits.specs.Told.{Told}
use Rattle.tlb.specs.declared.entries.Entry.{Entry}
use Rattle.session.specs.declared.op.Op.{Op}
use Rattle.session.specs.declared.op.Op.TheVariants as op
use Rattle.session.specs.declared.op.Answer.TheVariants as answer
use Rattle.session.specs.Answers.{told_answer, of_case, done, number}
use Rattle.session.specs.Step.{told}
use Rattle.rimjhodek.specs.declared.answers.Flag.{Flag}
use Rattle.rimjhodek.specs.declared.exceptions.Taken.{Taken}
use Rattle.rimjhodek.specs.declared.table.Looked.{Looked}
use Rattle.rimjhodek.specs.Modes.{is_mode, access_in}
use Rattle.rimjhodek.specs.Exceptions.{is_exception, exception_of}
use Rattle.rimjhodek.specs.Table.{entry_in, table_in}
use Rattle.rimjhodek.specs.Sessions.{Words, words, session_in, Whole}
use Rattle.rimjhodek.proofs.Scanning.{entry_at_lem}
use Rattle.rimjhodek.proofs.Stepping.{told_bool, Steps, unwritten}
use Rattle.rimjhodek.proofs.Steps.{told_flag}
use Rattle.rimjhodek.proofs.Steps as registers
use Rattle.rimjhodek.proofs.TableSteps.{told_looked, told_translated}
use Rattle.rimjhodek.proofs.TableSteps as table
use Rattle.rimjhodek.proofs.ExceptionSteps.{dispatch_in}
use Rattle.rimjhodek.proofs.ExceptionSteps as exceptions
use Rattle.rimjhodek.specs.contracts.registers.rimjhodek_mfc0 as mfc0
use Rattle.rimjhodek.proofs.registers.rimjhodek_mfc0.Reads as mfc0_reads
use Rattle.rimjhodek.specs.contracts.registers.rimjhodek_dmfc0 as dmfc0
use Rattle.rimjhodek.proofs.registers.rimjhodek_dmfc0.Reads as dmfc0_reads
use Rattle.rimjhodek.specs.contracts.registers.rimjhodek_mtc0 as mtc0
use Rattle.rimjhodek.proofs.registers.rimjhodek_mtc0.Reads as mtc0_reads
use Rattle.rimjhodek.specs.contracts.registers.rimjhodek_dmtc0 as dmtc0
use Rattle.rimjhodek.proofs.registers.rimjhodek_dmtc0.Reads as dmtc0_reads
use Rattle.rimjhodek.specs.contracts.clock.rimjhodek_advance as advance
use Rattle.rimjhodek.proofs.clock.rimjhodek_advance.Reads as advance_reads
use Rattle.rimjhodek.specs.contracts.interrupts.rimjhodek_set_ip as set_ip
use Rattle.rimjhodek.proofs.interrupts.rimjhodek_set_ip.Reads as set_ip_reads
use Rattle.rimjhodek.specs.contracts.interrupts.rimjhodek_interrupt_pending as interrupt_pending
use Rattle.rimjhodek.proofs.interrupts.rimjhodek_interrupt_pending.Reads as interrupt_pending_reads
use Rattle.rimjhodek.proofs.table.rimjhodek_page_size.Reads as page_size_reads
use Rattle.rimjhodek.proofs.table.rimjhodek_pair_size.Reads as pair_size_reads
use Rattle.rimjhodek.specs.contracts.table.rimjhodek_lookup as lookup
use Rattle.rimjhodek.proofs.table.rimjhodek_lookup.Reads as lookup_reads
use Rattle.rimjhodek.specs.contracts.table.rimjhodek_jtlb_has_match as jtlb_has_match
use Rattle.rimjhodek.proofs.table.rimjhodek_jtlb_has_match.Reads as jtlb_has_match_reads
use Rattle.rimjhodek.specs.contracts.table.rimjhodek_itlb_probe as itlb_probe
use Rattle.rimjhodek.proofs.table.rimjhodek_itlb_probe.Reads as itlb_probe_reads
use Rattle.rimjhodek.specs.contracts.table.rimjhodek_itlb_fill as itlb_fill
use Rattle.rimjhodek.proofs.table.rimjhodek_itlb_fill.Reads as itlb_fill_reads
use Rattle.rimjhodek.specs.contracts.moves.rimjhodek_write_entry as write_entry
use Rattle.rimjhodek.proofs.moves.rimjhodek_write_entry.Reads as write_entry_reads
use Rattle.rimjhodek.specs.contracts.moves.rimjhodek_read_entry as read_entry
use Rattle.rimjhodek.proofs.moves.rimjhodek_read_entry.Reads as read_entry_reads
use Rattle.rimjhodek.specs.contracts.moves.rimjhodek_probe as probe
use Rattle.rimjhodek.proofs.moves.rimjhodek_probe.Reads as probe_reads
use Rattle.rimjhodek.specs.contracts.translation.rimjhodek_translate_via as translate_via
use Rattle.rimjhodek.proofs.translation.rimjhodek_translate_via.Reads as translate_via_reads
use Rattle.rimjhodek.specs.contracts.exceptions.rimjhodek_dispatch as dispatch
use Rattle.rimjhodek.proofs.exceptions.rimjhodek_dispatch.Reads as dispatch_reads
use Rattle.rimjhodek.specs.contracts.exceptions.rimjhodek_eret as eret
use Rattle.rimjhodek.proofs.exceptions.rimjhodek_eret.Reads as eret_reads

-- the operation, the words that were lent, the answer as the session tells it, and the words that were left
pub data Call : Op → Words → Told → Words → Type 0 where
  -- the registers' exports, beside any words ts of a table
  mfc0_call : (κs : Lifetimes.Lfts 1) (a : World.ArgsD mfc0.signature κs) (r : ℕ) (s : _) (ts : List ℕ) → mfc0_reads.Post κs a r s
      → Call (op.Mfc0 a.1.0) (words a.0.now ts) (number r) (words a.0.now ts)
  dmfc0_call : (κs : Lifetimes.Lfts 1) (a : World.ArgsD dmfc0.signature κs) (r : ℕ) (s : _) (ts : List ℕ) → dmfc0_reads.Post κs a r s
      → Call (op.Dmfc0 a.1.0) (words a.0.now ts) (number r) (words a.0.now ts)
  mtc0_call : (κs : Lifetimes.Lfts 1) (a : World.ArgsD mtc0.signature κs) (r s : _) (ts : List ℕ) → mtc0_reads.Post κs a r s
      → Call (op.Mtc0 a.1.0 a.1.1.0) (words a.0.now ts) done (words s.0.now ts)
  dmtc0_call : (κs : Lifetimes.Lfts 1) (a : World.ArgsD dmtc0.signature κs) (r s : _) (ts : List ℕ) → dmtc0_reads.Post κs a r s
      → Call (op.Dmtc0 a.1.0 a.1.1.0) (words a.0.now ts) done (words s.0.now ts)
  set_ip_call : (κs : Lifetimes.Lfts 1) (a : World.ArgsD set_ip.signature κs) (r s : _) (ts : List ℕ) → set_ip_reads.Post κs a r s
      → Call (op.SetIp a.1.0 a.1.1.0) (words a.0.now ts) done (words s.0.now ts)
  interrupt_pending_call : (κs : Lifetimes.Lfts 1) (a : World.ArgsD interrupt_pending.signature κs) (r : Bool) (s : _) (ts : List ℕ)
      → interrupt_pending_reads.Post κs a r s → Call op.InterruptPending (words a.0.now ts) (told_bool r) (words a.0.now ts)
  advance_call : (κs : Lifetimes.Lfts 1) (a : World.ArgsD advance.signature κs) (r : Flag) (s : _) (ts : List ℕ)
      → advance_reads.Post κs a r s
      → Call (op.Advance a.1.0 a.1.1.0) (words a.0.now ts) (of_case 7 (told_flag r)) (words s.0.now ts)
  dispatch_call : (κs : Lifetimes.Lfts 1) (a : World.ArgsD dispatch.signature κs) (r : Taken) (s : _) (ts : List ℕ)
      → is_exception a.1.0 ≡ true → dispatch_reads.Post κs a r s
      → Call (op.Dispatch (exception_of a.1.0) a.1.1.0 a.1.1.1.0 a.1.1.1.1.0) (words a.0.now ts)
      (told_answer (answer.Vector (dispatch_in r))) (words s.0.now ts)
  eret_call : (κs : Lifetimes.Lfts 1) (a : World.ArgsD eret.signature κs) (r : ℕ) (s : _) (ts : List ℕ) → eret_reads.Post κs a r s
      → Call op.Eret (words a.0.now ts) (number r) (words s.0.now ts)
  -- the table's, beside any words cs of registers
  lookup_call : (κs : Lifetimes.Lfts 1) (a : World.ArgsD lookup.signature κs) (r : Looked) (s : _) (cs : List ℕ)
      → lookup_reads.Post κs a r s
      → Call (op.Lookup a.1.0 a.1.1.0 a.1.1.1.0) (words cs a.0.now) (of_case 4 (told_looked r)) (words cs s.0.now)
  jtlb_has_match_call : (κs : Lifetimes.Lfts 1) (a : World.ArgsD jtlb_has_match.signature κs) (r : Bool) (s : _) (cs : List ℕ)
      → jtlb_has_match_reads.Post κs a r s
      → Call (op.JtlbHasMatch a.1.0 a.1.1.0) (words cs a.0.now) (told_bool r) (words cs a.0.now)
  itlb_probe_call : (κs : Lifetimes.Lfts 1) (a : World.ArgsD itlb_probe.signature κs) (r : Bool) (s : _) (cs : List ℕ)
      → itlb_probe_reads.Post κs a r s
      → Call (op.ItlbProbe a.1.0 a.1.1.0) (words cs a.0.now) (told_bool r) (words cs s.0.now)
  itlb_fill_call : (κs : Lifetimes.Lfts 1) (a : World.ArgsD itlb_fill.signature κs) (r s : _) (cs : List ℕ) → itlb_fill_reads.Post κs a r s
      → Call (op.ItlbFill a.1.0 a.1.1.0) (words cs a.0.now) done (words cs s.0.now)
  translate_via_call : (κs : Lifetimes.Lfts 1) (a : World.ArgsD translate_via.signature κs) (r : Looked) (s : _) (cs : List ℕ)
      → is_mode a.1.1.1.1.0.mode ≡ true → translate_via_reads.Post κs a r s
      → Call (op.TranslateVia a.1.0 a.1.1.0 a.1.1.1.0 (access_in a.1.1.1.1.0)) (words cs a.0.now)
      (of_case 5 (told_translated r)) (words cs s.0.now)
  -- those of both
  write_entry_call : (κs : Lifetimes.Lfts 2) (a : World.ArgsD write_entry.signature κs) (r s : _) → write_entry_reads.Post κs a r s
      → Call (op.WriteEntry a.1.0) (words a.1.1.0.now a.0.now) done (words a.1.1.0.now s.0.now)
  read_entry_call : (κs : Lifetimes.Lfts 2) (a : World.ArgsD read_entry.signature κs) (r s : _) → read_entry_reads.Post κs a r s
      → Call (op.ReadEntry a.1.0) (words a.1.1.0.now a.0.now) done (words s.1.1.0.now a.0.now)
  probe_call : (κs : Lifetimes.Lfts 2) (a : World.ArgsD probe.signature κs) (r s : _) → probe_reads.Post κs a r s
      → Call op.Probe (words a.1.0.now a.0.now) done (words s.1.0.now a.0.now)
  -- and of none
  page_size_call : (a : ℕ × Unit {0}) (r : ℕ) (w : Words) → page_size_reads.Post tt a r a → Call (op.PageSize a.0) w (number r) w
  pair_size_call : (a : ℕ × Unit {0}) (r : ℕ) (w : Words) → pair_size_reads.Post tt a r a → Call (op.PairSize a.0) w (number r) w
  -- what a caller reads off its words, without an export
  is_shutdown : (w : Words) → Call op.IsShutdown w (told_bool (table_in w.tlb).shutdown) w
  entry : (i : ℕ) (w : Words) → Call (op.Entry i) w (told_answer (answer.Entry (entry_in w.tlb (i % 32)))) w

pub call_steps : {o : Op} {w : Words} {a : Told} {left : Words} → Whole w → Call o w a left → Steps o w a left
call_steps h (mfc0_call κs a r s ts p) = registers.mfc0_steps κs a r s ts h p
call_steps h (dmfc0_call κs a r s ts p) = registers.dmfc0_steps κs a r s ts h p
call_steps h (mtc0_call κs a r s ts p) = registers.mtc0_steps κs a r s ts h p
call_steps h (dmtc0_call κs a r s ts p) = registers.dmtc0_steps κs a r s ts h p
call_steps h (set_ip_call κs a r s ts p) = registers.set_ip_steps κs a r s ts h p
call_steps h (interrupt_pending_call κs a r s ts p) = registers.interrupt_pending_steps κs a r s ts h p
call_steps h (advance_call κs a r s ts p) = registers.advance_steps κs a r s ts h p
call_steps h (dispatch_call κs a r s ts named p) = (exceptions.dispatch_steps κs a r s ts h named p).0
call_steps h (eret_call κs a r s ts p) = exceptions.eret_steps κs a r s ts h p
call_steps h (lookup_call κs a r s cs p) = table.lookup_steps κs a r s cs h p
call_steps h (jtlb_has_match_call κs a r s cs p) = table.jtlb_has_match_steps κs a r s cs h p
call_steps h (itlb_probe_call κs a r s cs p) = table.itlb_probe_steps κs a r s cs h p
call_steps h (itlb_fill_call κs a r s cs p) = table.itlb_fill_steps κs a r s cs h p
call_steps h (translate_via_call κs a r s cs named p) = table.translate_via_steps κs a r s cs h named p
call_steps h (write_entry_call κs a r s p) = table.write_entry_steps κs a r s h p
call_steps h (read_entry_call κs a r s p) = table.read_entry_steps κs a r s h p
call_steps h (probe_call κs a r s p) = table.probe_steps κs a r s h p
call_steps h (page_size_call a r w p) = table.page_size_steps a r w h p
call_steps h (pair_size_call a r w p) = table.pair_size_steps a r w h p
call_steps h (is_shutdown w) = unwritten op.IsShutdown w h _ refl
call_steps h (entry i w) =
    unwritten (op.Entry i) w h _
    (ap (λ (e : Entry). told (told_answer (answer.Entry e)) (session_in w)) (sym (entry_at_lem w.tlb (i % 32) (omega arith))))
