-- By what the scan found.
use Rattle.std.proofs.Common.{◌/◌, ◌∙◌, arith}
use Rattle.rimjhodek.proofs.Looking.{when_shut, when_one, when_none, when_more}
use Rattle.rimjhodek.proofs.table.look.Goals as goal

pub returns-then-tlb-eq1 : goal.returns-then-tlb-eq1
returns-then-tlb-eq1 c =
    let a = c.args in
    let w = when_shut a.tlb.now a.vaddr a.asid a.store c.if-tlb-eq1.true in
    (c.failed.ensures ∙ w.0, w.1)

pub returns-then-only-lt128 : goal.returns-then-only-lt128
returns-then-only-lt128 c =
    let a = c.args in
    let w = when_one a.tlb.now a.vaddr a.asid a.store c.if-tlb-eq1.false (c.scan-only.result / 4) (omega (arith, c.scan-only.ensures)) (omega (arith, c.if-only-lt128.true)) in
    (c.answer.ensures ∙ w.0, w.1)

pub returns-then-only-eq128 : goal.returns-then-only-eq128
returns-then-only-eq128 c =
    let a = c.args in
    let w = when_none a.tlb.now a.vaddr a.asid a.store c.if-tlb-eq1.false (c.scan-only.result / 4) (omega (arith, c.scan-only.ensures)) (omega (arith, c.if-only-eq128.true)) in
    (c.failed-then-only-eq128.ensures ∙ w.0, w.1)

pub returns : goal.returns
returns c =
    let a = c.args in
    let w = when_more a.tlb.now a.vaddr a.asid a.store c.if-tlb-eq1.false (c.scan-only.result / 4) (omega (arith, c.scan-only.ensures)) (omega (arith, c.if-only-lt128.false))
    (λ z. c.if-only-eq128.false (omega (arith, z, c.scan-only.ensures))) in
    (c.failed-2.ensures ∙ w.0, rw c.with_field.ensures w.1)
