-- The session's record: one register file and one TLB.
use Rattle.cop0.specs.declared.registers.Cop0.{Cop0}
use Rattle.cop0.specs.Record as registers
use Rattle.tlb.specs.declared.table.Tlb.{Tlb}
use Rattle.tlb.specs.Table.{fresh_table}
use Rattle.session.specs.declared.session.Session.{Session}

abbrev pub fresh : Session
fresh = record { cop0 = registers.fresh; tlb = fresh_table }

abbrev pub with_cop0 : Session → Cop0 → Session
with_cop0 s c = record { cop0 = c; tlb = s.tlb }

abbrev pub with_tlb : Session → Tlb → Session
with_tlb s t = record { cop0 = s.cop0; tlb = t }
