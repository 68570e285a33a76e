-- The selected half answers.
use Rattle.std.proofs.Common.{◌≡◌, ◌*◌, ◌/◌, arith, eq-eqb, ne_eqb}
use Rattle.tlb.specs.Entries.{half_of, entry_answer}
use Rattle.tlb.proofs.Sizes.{page_ge}
use Rattle.rimjhodek.specs.Table.{entry_in}
use Rattle.rimjhodek.proofs.table.answer.Goals as goal

pub overflow_sub-size : goal.overflow_sub-size
overflow_sub-size c = omega (arith, c.page_size-size.ensures, page_ge c.low32.result)

pub returns-then-vaddr-size-eq0 : goal.returns-then-vaddr-size-eq0
unfolding entry_answer half_of entry_in
returns-then-vaddr-size-eq0 c =
    let at = c.args.place.at in
    let whole : 4 * (at / 4) ≡ at = omega (arith, c.args.place.whole) in
    rw (whole, ← c.low32.ensures, ← c.page_size-size.ensures, eq-eqb _ _ c.if-vaddr-size-eq0.true) c.half.ensures

pub returns : goal.returns
unfolding entry_answer half_of entry_in
returns c =
    let at = c.args.place.at in
    let whole : 4 * (at / 4) ≡ at = omega (arith, c.args.place.whole) in
    rw (whole, ← c.low32.ensures, ← c.page_size-size.ensures, ne_eqb _ _ c.if-vaddr-size-eq0.false) c.half-2.ensures
