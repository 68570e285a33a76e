-- `dcache::miss_plan` goes by the word of the line.
use mathlib.Core.Path.{◌∙◌}
use native.Mathlib.Omega.{arith}
use Rattle.lines.proofs.ByteLaws.{line_if_lem}
use Rattle.cache.specs.Data.{plan_told, plan_bytes}
use Rattle.cache.proofs.PartLaws.{passed, all_there}
use Rattle.cache.proofs.dcache.miss_plan.Goals as goal

pub returns : goal.returns
unfolding plan_told plan_bytes
returns c =
    let a = c.args in
    let start = c.start-start in
    let sized = c.in_default.ensures in
    let long = all_there 8192 _ _ _ sized in
    rw (
      passed _ _ sized,
      ← c.word_for-word.ensures,
      ← start.ensures,
      ← c.evicts.ensures,
    ) (
      c.planned.ensures,
      c.line.ensures ∙ line_if_lem a.lines.now start.result 16 (omega (arith, long, start.ensures)) c.evicts.result,
    )
