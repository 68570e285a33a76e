-- `Tlb::lookup` goes by what the scan found.
use Rattle.std.proofs.Common.{sym, ◌∙◌}
use Rattle.tlb.proofs.Looking.{no_hit, one_hit, many_hits, is_shut, none_answers, one_answers, several_shuts}
use Rattle.tlb.proofs.table.Tlb.lookup.Goals as goal

pub returns-then-self : goal.returns-then-self
returns-then-self c =
    let a = c.args in
    let r = is_shut a.self a.vaddr a.asid a.store c.if-self.true in
    (cc (r.0), cc (r.1))

pub returns-in-None : goal.returns-in-None
returns-in-None c =
    let a = c.args in
    let r = none_answers a.self a.vaddr a.asid a.store c.if-self.false (no_hit _ (sym c.in-None.is ∙ c.scan.ensures)) in
    (cc (r.0), cc (r.1))

pub returns-in-One : goal.returns-in-One
returns-in-One c =
    let a = c.args in
    let r = one_answers a.self a.vaddr a.asid a.store c.if-self.false c.in-One.i (one_hit _ _ c.in-One.ensures) in
    (cc (r.0), r.1)

pub returns-in-Several : goal.returns-in-Several
returns-in-Several c =
    let a = c.args in
    let r = several_shuts a.self a.vaddr a.asid a.store c.if-self.false (many_hits _ _ c.in-Several.ensures) in
    (cc (r.0), cc (r.1))
