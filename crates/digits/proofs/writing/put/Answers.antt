-- `writing::put` has written i digits after i turns.
use mathlib.Core.Path.{◌≡◌, sym, ◌∙◌}
use native.Mathlib.Omega.{arith}
use native.Mathlib.Numerals.{add-one}
use lib.Seq.{paste-suc}
use borrow.Author.Rules.{rules}
use Rattle.digits.specs.Writing.{digits_of}
use Rattle.digits.proofs.WritingLaws.{digits_length, digit_at, room, no_room, put_there, put_nowhere}
use Rattle.digits.proofs.writing.put.Goals as goal

pub returns-then-out-at : goal.returns-then-out-at
returns-then-out-at c =
    let a = c.args in
    (sym (no_room _ a.at a.width (omega arith)), sym (put_nowhere _ a.at a.width a.value (omega arith)))

pub returns-then-out-at-2 : goal.returns-then-out-at-2
returns-then-out-at-2 c =
    let a = c.args in
    (sym (no_room _ a.at a.width (omega arith)), sym (put_nowhere _ a.at a.width a.value (omega arith)))

pub loop-i-preserved : goal.loop-i-preserved
loop-i-preserved c =
    let l = c.loop-i in
    let a = c.args in
    let all = digits_length a.width a.value in (
      search rules,
      rw (l.invariant.1, add-one, c.place.ensures, ← digit_at a.width a.value l.i (omega arith))
          (paste-suc a.out.now a.at (digits_of a.width a.value) l.i 0 (omega arith) (omega arith)),
    )

pub returns : goal.returns
returns c =
    let l = c.loop-i in
    let a = c.args in
    let all : l.i ≡ a.width = omega arith in (
      sym (room _ a.at a.width (omega arith)),
      (rw all at l.invariant.1) ∙ sym (put_there _ a.at a.width a.value (omega arith)),
    )
