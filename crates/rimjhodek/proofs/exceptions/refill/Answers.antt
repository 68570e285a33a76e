-- Step by step.
use Rattle.std.proofs.Common.{refl}
use Rattle.exception.specs.declared.kinds.Exception.TheVariants.{TlbRefill}
use Rattle.rimjhodek.proofs.Taking.{told, faulted, refill_proper}
use Rattle.rimjhodek.proofs.exceptions.refill.Goals as goal

pub returns : goal.returns
returns c =
    let a = c.args in
    let ws = a.cop0.now in
    let e = TlbRefill a.store a.wide in
    let kind = c.vector_kind_of-kind.result in
    let proper = refill_proper a.store a.wide in (
      rw (c.taking.ensures, c.vector-vector.ensures)
          (told ws e a.pc a.in_delay_slot a.bad_vaddr proper
          _ kind c.read.ensures c.vector_kind_of-kind.ensures),
      faulted ws e a.pc a.in_delay_slot a.bad_vaddr proper c.told-cop0 _ c.record.ensures refl
          _ _ c.record_address.ensures c.enter.ensures,
    )
