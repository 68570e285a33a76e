-- What each operation of a session answers, and the session that it leaves: one row for each, by the definitions of the
-- register file, the TLB, the segments and the exceptions.
use Rattle.std.specs.Prelude.{Bool, [], ◌∷◌, ℕ, ◌%◌}
use Rattle.bits.specs.Field.{bit}
use Rattle.bits.specs.Told.{Told, answered}
use Rattle.cop0.specs.declared.registers.Cop0.{Cop0}
use Rattle.cop0.specs.Access.{mfc0_of, dmfc0_of, mtc0_of, dmtc0_of}
use Rattle.cop0.specs.Interrupt.{set_ip_of, interrupt_pending_of}
use Rattle.cop0.specs.Advance.{advance_told, advance_of}
use Rattle.tlb.specs.declared.table.Tlb.{Tlb}
use Rattle.tlb.specs.Entries.{page_size_of, pair_size_of, told_lookup}
use Rattle.tlb.specs.Table.{entry_at}
use Rattle.tlb.specs.Lookup.{lookup_answer, lookup_table, is_shutdown_of}
use Rattle.tlb.specs.Moves.{written_of, read_entry_of, probe_of}
use Rattle.tlb.specs.Micro.{has_match_of, probed_of, filled_of}
use Rattle.addr.specs.Answers.{told_translate}
use Rattle.addr.specs.Translate.{translate_answer, translate_table}
use Rattle.exception.specs.declared.epilogue.Dispatched.{Dispatched}
use Rattle.exception.specs.Taking.{dispatch_of}
use Rattle.exception.specs.Returning.{eret_of}
use Rattle.session.specs.declared.session.Session.{Session}
use Rattle.session.specs.declared.session.Stepped.{Stepped}
use Rattle.session.specs.declared.op.Op.{Op}
use Rattle.session.specs.declared.op.Op.TheVariants as op
use Rattle.session.specs.declared.op.Answer.TheVariants as answer
use Rattle.session.specs.Record.{with_cop0, with_tlb}
use Rattle.session.specs.Answers.{told_answer, of_case, done, number}

-- an answer and the session after it
pub record Outcome : Type 0 where
  pub answer : Told
  pub session : Session

abbrev pub told : Told → Session → Outcome
told a s = record { answer = a; session = s }

abbrev pub flag : Bool → Session → Outcome
flag b s = told (answered (2 ∷ bit b ∷ [])) s

-- done, with other registers or another table
abbrev pub to_cop0 : Session → Cop0 → Outcome
to_cop0 s c = told done (with_cop0 s c)

abbrev pub to_tlb : Session → Tlb → Outcome
to_tlb s t = told done (with_tlb s t)

-- what `step` and the methods return, as an outcome
abbrev pub outcome : Stepped → Outcome
outcome r = told (told_answer r.answer) r.session

-- a rule for advances, and a row for each other operation
abbrev pub step_by : (ℕ → ℕ → Session → Outcome) → Op → Session → Outcome
step_by advance (op.Mfc0 n) s = told (number (mfc0_of s.cop0 n)) s
step_by advance (op.Dmfc0 n) s = told (number (dmfc0_of s.cop0 n)) s
step_by advance (op.Mtc0 n v) s = to_cop0 s (mtc0_of s.cop0 n v)
step_by advance (op.Dmtc0 n v) s = to_cop0 s (dmtc0_of s.cop0 n v)
step_by advance (op.SetIp b on) s = to_cop0 s (set_ip_of s.cop0 b on)
step_by advance op.InterruptPending s = flag (interrupt_pending_of s.cop0) s
step_by advance (op.Advance n m) s = advance n m s
step_by advance op.IsShutdown s = flag (is_shutdown_of s.tlb) s
step_by advance (op.Entry i) s = told (told_answer (answer.Entry (entry_at s.tlb (i % 32)))) s
step_by advance (op.PageSize mask) s = told (number (page_size_of mask)) s
step_by advance (op.PairSize mask) s = told (number (pair_size_of mask)) s
step_by advance (op.Lookup v asid store) s =
    told (of_case 4 (told_lookup (lookup_answer s.tlb v asid store))) (with_tlb s (lookup_table s.tlb v asid))
step_by advance (op.WriteEntry i) s = to_tlb s (written_of s.tlb i s.cop0)
step_by advance (op.ReadEntry i) s = to_cop0 s (read_entry_of s.tlb i s.cop0)
step_by advance op.Probe s = to_cop0 s (probe_of s.tlb s.cop0)
step_by advance (op.JtlbHasMatch v asid) s = flag (has_match_of s.tlb v asid) s
step_by advance (op.ItlbProbe v asid) s = flag (probed_of s.tlb v asid).hit (with_tlb s (probed_of s.tlb v asid).tlb)
step_by advance (op.ItlbFill v asid) s = to_tlb s (filled_of s.tlb v asid)
step_by advance (op.TranslateVia v asid store a) s =
    told (of_case 5 (told_translate (translate_answer s.tlb v asid store a))) (with_tlb s (translate_table s.tlb v asid a))
step_by advance (op.Dispatch e pc slot bad) s =
    let r : Dispatched = dispatch_of s.cop0 e pc slot bad in
    told (told_answer (answer.Vector r.dispatch)) (with_cop0 s r.cop0)
step_by advance op.Eret s = told (number (eret_of s.cop0).pc) (with_cop0 s (eret_of s.cop0).cop0)

-- the register file's advance
abbrev pub advance_by : ℕ → ℕ → Session → Outcome
advance_by n m s = told (of_case 7 (advance_told s.cop0 n m)) (with_cop0 s (advance_of s.cop0 n m))

abbrev pub step_of : Op → Session → Outcome
step_of o s = step_by advance_by o s
