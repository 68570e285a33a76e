-- `writing::place` reads a digit as four bits of the word.
use mathlib.Core.Path.{ap, sym, ◌∙◌}
use borrow.Author.Rules.{rules}
use Rattle.digits.specs.Writing.{lowercase_of, place_of}
use Rattle.digits.proofs.WritingLaws.{field_is, zero_above}
use Rattle.digits.proofs.writing.place.Goals as goal

pub returns-then-k-gt15 : goal.returns-then-k-gt15
returns-then-k-gt15 c = sym (zero_above _ _ (search rules) c.if-k-gt15.true)

pub returns : goal.returns
unfolding place_of
returns c =
    let a = c.args in
    c.lowercase.ensures ∙ ap lowercase_of (c.field.ensures ∙ field_is a.value a.k)
