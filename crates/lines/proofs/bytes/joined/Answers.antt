-- By the number of bytes.
use mathlib.Core.Path.{ap, ◌∙◌}
use Rattle.lines.specs.Bytes.{big_endian}
use Rattle.lines.proofs.ByteLaws.{of_eight, each, each_is}
use borrow.Author.Rules.{rules}
use Rattle.lines.proofs.bytes.joined.Goals as goal

pub returns-then-bytes-eq8 : goal.returns-then-bytes-eq8
unfolding each
returns-then-bytes-eq8 c = c.both.ensures ∙ rw (c.four-low.ensures.value, c.four-high.ensures.value) (of_eight _ _ _ _ _ _ _ _ ∙ ap big_endian (each_is 8 0 _ (search rules)))
