-- Slot by slot.
use Rattle.std.proofs.Common.{get_or, arith, get_or-set_other}
use Rattle.rimjhodek.proofs.Slots.{with_byte}
use Rattle.rimjhodek.proofs.moves.empty.Goals as goal

pub returns : goal.returns
returns c =
    let a = c.args in
    let ws = a.tlb.now in
    rw (
      c.with_field-2.ensures,
      c.with_field.ensures,
      with_byte (get_or ws 128 0) 32 (omega arith),
      get_or-set_other ws 128 129 _ 0 (λ q. omega (arith, q)),
      with_byte (get_or ws 129 0) 32 (omega arith),
    )
