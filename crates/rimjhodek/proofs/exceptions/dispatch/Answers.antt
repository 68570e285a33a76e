-- NMI by itself; all others step by step, with and without an address.
use Rattle.std.proofs.Common.{true, false, sym, ◌∙◌}
use Rattle.exception.specs.Kinds.{vector_kind_of}
use Rattle.exception.specs.Taking.{dispatch_of}
use Rattle.rimjhodek.proofs.Taking.{reset_asked, told, faulted, unfaulted}
use Rattle.rimjhodek.proofs.exceptions.dispatch.Goals as goal

pub returns-then-eq : goal.returns-then-eq
unfolding dispatch_of
returns-then-eq c =
    let a = c.args in
    let kind = c.vector_kind_of-kind.result in
    let reset = reset_asked kind (vector_kind_of a.exc) _ true c.vector_kind_of-kind.ensures c.eq.ensures c.if-eq.true in
    rw reset c.rimjhodek_nmi.ensures

pub returns-then-writes_bad_vaddr : goal.returns-then-writes_bad_vaddr
returns-then-writes_bad_vaddr c =
    let a = c.args in
    let ws = a.cop0.now in
    let kind = c.vector_kind_of-kind.result in
    let proper = reset_asked kind (vector_kind_of a.exc) _ false c.vector_kind_of-kind.ensures c.eq.ensures c.if-eq.false in (
      rw (c.taking.ensures, c.vector-vector.ensures)
          (told ws a.exc a.pc a.in_delay_slot a.bad_vaddr proper
          _ kind c.read.ensures c.vector_kind_of-kind.ensures),
      faulted ws a.exc a.pc a.in_delay_slot a.bad_vaddr proper c.told-cop0 _ c.record.ensures
          (sym c.writes_bad_vaddr.ensures ∙ c.if-writes_bad_vaddr.true)
          _ _ c.record_address.ensures c.enter.ensures,
    )

pub returns : goal.returns
returns c =
    let a = c.args in
    let ws = a.cop0.now in
    let kind = c.vector_kind_of-kind.result in
    let proper = reset_asked kind (vector_kind_of a.exc) _ false c.vector_kind_of-kind.ensures c.eq.ensures c.if-eq.false in (
      rw (c.taking-2.ensures, c.vector-vector.ensures)
          (told ws a.exc a.pc a.in_delay_slot a.bad_vaddr proper
          _ kind c.read.ensures c.vector_kind_of-kind.ensures),
      unfaulted ws a.exc a.pc a.in_delay_slot a.bad_vaddr proper c.told-cop0 _ c.record.ensures
          (sym c.writes_bad_vaddr.ensures ∙ c.if-writes_bad_vaddr.false) _ c.enter-2.ensures,
    )
