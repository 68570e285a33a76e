-- `request::is_over` asks the pairs of a letter and a number.
use Rattle.std.proofs.Common.{◌∙◌, rules, tests}
use Rattle.std.proofs.lemmas.Iterator.{YieldsList-from_slice, YieldsList-from_zip}
use Rattle.std.proofs.lemmas.Iterator.Search.{any_from_yields_List}
use Rattle.replay.proofs.Limits.{is_over, over_pairs}
use Rattle.replay.proofs.request.is_over.Goals as goal

pub returns : goal.returns
returns c =
    let letters = c.args.letters.now in
    let values = c.args.values.now in
    any_from_yields_List
    {s = c.zip.result} (is_over c.args.exc) c.any.new.self _ c.any.result c.any.ensures.ran
    (YieldsList-from_zip {s = c.zip.result} (YieldsList-from_slice letters cc) (YieldsList-from_slice values cc))
    (λ x b q k. search (rules, tests))
    ∙ over_pairs c.args.exc letters values
