-- What operations do, in one table: a row for each says whether it is an advance, and what it does to the registers and to the TLB.
-- What holds of registers, or of a TLB, is then kept by every operation if the few kinds of change keep it.
use mathlib.Core.Path.{◌≡◌, refl}
use mathlib.Core.Bool.{Bool}
use Prim.Native.Nat.{ℕ}
use Rattle.cop0.specs.declared.registers.Cop0.{Cop0}
use Rattle.cop0.specs.Access.{dmtc0_of}
use Rattle.cop0.specs.Interrupt.{set_ip_of}
use Rattle.cop0.specs.Advance.{advance_of}
use Rattle.cop0.specs.File.{set_hardware_of}
use Rattle.tlb.specs.declared.table.Tlb.{Tlb}
use Rattle.tlb.specs.Lookup.{lookup_table}
use Rattle.tlb.specs.Moves.{written_of}
use Rattle.tlb.specs.Micro.{probed_of, filled_of}
use Rattle.tlb.proofs.Moving.{read_entry_by, probe_by}
use Rattle.addr.proofs.TranslateLaws.{translate_by}
use Rattle.exception.proofs.Keeping.{dispatch_by, eret_by}
use Rattle.session.specs.declared.session.Session.{Session}
use Rattle.session.specs.declared.op.Op.{Op}
use Rattle.session.specs.declared.op.Op.TheVariants as op
use Rattle.session.specs.Step.{Outcome, step_by, step_of}

-- what an operation can do to the registers: a move into one, a pending bit, what the hardware sets, an advance
pub record Registers (P : Cop0 → Type 0) : Type 0 where
  pub move : (c : Cop0) → P c → (n v : ℕ) → P (dmtc0_of c n v)
  pub pending : (c : Cop0) → P c → (b : ℕ) (on : Bool) → P (set_ip_of c b on)
  pub hardware : (c : Cop0) → P c → (n v : ℕ) → P (set_hardware_of c n v)
  pub advance : (c : Cop0) → P c → (n m : ℕ) → P (advance_of c n m)

-- and to the TLB: an entry written, a lookup, the micro-TLB probed or filled
pub record Tables (Q : Tlb → Type 0) : Type 0 where
  pub written : (t : Tlb) → Q t → (i : ℕ) (c : Cop0) → Q (written_of t i c)
  pub looked : (t : Tlb) → Q t → (v asid : ℕ) → Q (lookup_table t v asid)
  pub probed : (t : Tlb) → Q t → (v asid : ℕ) → Q (probed_of t v asid).tlb
  pub filled : (t : Tlb) → Q t → (v asid : ℕ) → Q (filled_of t v asid)

-- the operation goes by no rule for advances
abbrev Apart : Op → Type 0
Apart o = (f g : ℕ → ℕ → Session → Outcome) (s : Session) → step_by f o s ≡ step_by g o s

abbrev OnRegisters : Op → Type 1
OnRegisters o = (P : Cop0 → Type 0) → Registers P → (s : Session) → P s.cop0 → P (step_of o s).session.cop0

abbrev OnTable : Op → Type 1
OnTable o = (Q : Tlb → Type 0) → Tables Q → (s : Session) → Q s.tlb → Q (step_of o s).session.tlb

pub data Does : Op → Type 1 where
  an_advance : (n m : ℕ) → Does (op.Advance n m)
  other : {o : Op} → Apart o → OnRegisters o → OnTable o → Does o

pub does : (o : Op) → Does o
does (op.Mfc0 n) = other (λ f g s. refl) (λ P r s p. p) (λ Q t s q. q)
does (op.Dmfc0 n) = other (λ f g s. refl) (λ P r s p. p) (λ Q t s q. q)
does (op.Mtc0 n v) = other (λ f g s. refl) (λ P r s p. r.move s.cop0 p n _) (λ Q t s q. q)
does (op.Dmtc0 n v) = other (λ f g s. refl) (λ P r s p. r.move s.cop0 p n v) (λ Q t s q. q)
does (op.SetIp b on) = other (λ f g s. refl) (λ P r s p. r.pending s.cop0 p b on) (λ Q t s q. q)
does op.InterruptPending = other (λ f g s. refl) (λ P r s p. p) (λ Q t s q. q)
does (op.Advance n m) = an_advance n m
does op.IsShutdown = other (λ f g s. refl) (λ P r s p. p) (λ Q t s q. q)
does (op.Entry i) = other (λ f g s. refl) (λ P r s p. p) (λ Q t s q. q)
does (op.PageSize mask) = other (λ f g s. refl) (λ P r s p. p) (λ Q t s q. q)
does (op.PairSize mask) = other (λ f g s. refl) (λ P r s p. p) (λ Q t s q. q)
does (op.Lookup v asid store) = other (λ f g s. refl) (λ P r s p. p) (λ Q t s q. t.looked s.tlb q v asid)
does (op.WriteEntry i) = other (λ f g s. refl) (λ P r s p. p) (λ Q t s q. t.written s.tlb q i s.cop0)
does (op.ReadEntry i) =
    other (λ f g s. refl) (λ P r s p. read_entry_by P r.hardware s.tlb i s.cop0 p) (λ Q t s q. q)
does op.Probe = other (λ f g s. refl) (λ P r s p. probe_by P r.hardware s.tlb s.cop0 p) (λ Q t s q. q)
does (op.JtlbHasMatch v asid) = other (λ f g s. refl) (λ P r s p. p) (λ Q t s q. q)
does (op.ItlbProbe v asid) = other (λ f g s. refl) (λ P r s p. p) (λ Q t s q. t.probed s.tlb q v asid)
does (op.ItlbFill v asid) = other (λ f g s. refl) (λ P r s p. p) (λ Q t s q. t.filled s.tlb q v asid)
does (op.TranslateVia v asid store a) =
    other (λ f g s. refl) (λ P r s p. p) (λ Q t s q. translate_by Q s.tlb v asid a q (t.looked s.tlb q v asid))
does (op.Dispatch e pc slot bad) =
    other (λ f g s. refl) (λ P r s p. dispatch_by P r.hardware s.cop0 p e pc slot bad) (λ Q t s q. q)
does op.Eret = other (λ f g s. refl) (λ P r s p. eret_by P r.hardware s.cop0 p) (λ Q t s q. q)

-- an invariant of the registers is four laws
by_registers : {P : Cop0 → Type 0} → Registers P → {o : Op} → Does o → (s : Session) → P s.cop0 → P (step_of o s).session.cop0
by_registers r (an_advance n m) s p = r.advance s.cop0 p n m
by_registers {P} r (other same registers table) s p = registers P r s p

pub step_registers : {P : Cop0 → Type 0} → Registers P → (o : Op) (s : Session) → P s.cop0 → P (step_of o s).session.cop0
step_registers r o s p = by_registers r (does o) s p

-- and so is one of the TLB, which no advance touches
by_table : {Q : Tlb → Type 0} → Tables Q → {o : Op} → Does o → (s : Session) → Q s.tlb → Q (step_of o s).session.tlb
by_table t (an_advance n m) s q = q
by_table {Q} t (other same registers table) s q = table Q t s q

pub step_tables : {Q : Tlb → Type 0} → Tables Q → (o : Op) (s : Session) → Q s.tlb → Q (step_of o s).session.tlb
step_tables t o s q = by_table t (does o) s q
