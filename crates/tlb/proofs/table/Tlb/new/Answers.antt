-- `Tlb::new` fills the table entry by entry.
use Rattle.std.proofs.Common.{ap, List, [], ◌∷◌, false}
use Rattle.tlb.specs.declared.entries.Entry.{Entry}
use Rattle.tlb.specs.Table.{with_vpn2}
use Rattle.tlb.proofs.Freshly.{fresh}
use Rattle.tlb.proofs.table.Tlb.new.Goals as goal

pub returns : goal.returns
returns c =
    ap (λ (l : List Entry). record { entries = l; itlb = 32 ∷ 32 ∷ []; itlb_lru = 0; shutdown = false })
    (fresh c.from_fn.result c.from_fn.ensures.items.long (λ k h. (c.from_fn.ensures.items.at k (with_vpn2 0) h).2.met))
