-- `addr::translate_via` goes by the segment, and by the lookup's answer where it is mapped.
use Rattle.std.proofs.Common.{Err}
use Rattle.addr.specs.declared.segments.Segment.TheVariants.{Direct, Invalid}
use Rattle.addr.proofs.TranslateLaws.{by_segment, by_lookup}
use Rattle.addr.proofs.translate.translate_via.Goals as goal

pub returns-in_default : goal.returns-in_default
returns-in_default c =
    let a = c.args in
    by_lookup a.tlb a.vaddr a.asid a.store a.access _ c.segment.ensures c.in-Mapped.is _ c.lookup-looked.ensures
    (Err c.unwrap_err.result) c.unwrap_err.ensures

pub returns-in-Direct : goal.returns-in-Direct
returns-in-Direct c =
    let a = c.args in
    by_segment a.tlb a.vaddr a.asid a.store a.access _ c.segment.ensures (Direct c.in-Direct.addr c.in-Direct.cached) c.in-Direct.is

pub returns-in-Invalid : goal.returns-in-Invalid
returns-in-Invalid c =
    let a = c.args in
    by_segment a.tlb a.vaddr a.asid a.store a.access _ c.segment.ensures Invalid c.in-Invalid.is

pub returns-in-Ok : goal.returns-in-Ok
returns-in-Ok c =
    let a = c.args in
    rw c.by_entry.ensures
    (by_lookup a.tlb a.vaddr a.asid a.store a.access _ c.segment.ensures c.in-Mapped.is _ c.lookup-looked.ensures _ c.in-Ok.is)
