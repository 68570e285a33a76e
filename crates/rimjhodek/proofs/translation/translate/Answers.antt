-- By the segment of the address, and by the lookup where that says so.
use Rattle.std.proofs.Common.{◌∙◌}
use Rattle.rimjhodek.proofs.Segments.{segment_told_lem}
use Rattle.rimjhodek.proofs.Translating.{directly, by_table, nowhere}
use Rattle.rimjhodek.proofs.translation.translate.Goals as goal

pub returns-in-Direct : goal.returns-in-Direct
returns-in-Direct c =
    let a = c.args in
    let e = segment_told_lem c.segment_of.result a.access a.vaddr c.segment_of.ensures in
    rw (c.direct.ensures, c.is_cached.ensures)
    (directly a.tlb.now a.vaddr a.asid a.store a.access _ _ (e ∙ c.in-Direct.is))

pub returns-in-Mapped : goal.returns-in-Mapped
returns-in-Mapped c =
    let a = c.args in
    let e = segment_told_lem c.segment_of.result a.access a.vaddr c.segment_of.ensures in
    by_table a.tlb.now a.vaddr a.asid a.store a.access (e ∙ c.in-Mapped.is) _ _
    c.look.ensures.0 c.look.ensures.1

pub returns-in-Invalid : goal.returns-in-Invalid
returns-in-Invalid c =
    let a = c.args in
    let e = segment_told_lem c.segment_of.result a.access a.vaddr c.segment_of.ensures in
    rw c.failed.ensures
    (nowhere a.tlb.now a.vaddr a.asid a.store a.access (e ∙ c.in-Invalid.is))
