-- `canonical_page_mask` joins the upper bits of six pairs with themselves moved down one place.
use Rattle.tlb.proofs.Sizes.{mask_joined}
use Rattle.tlb.proofs.moves.canonical_page_mask.Goals as goal

pub returns : goal.returns
returns c = mask_joined 6 c.args.mask
