-- The words are cleared, and then filled entry by entry.
use Rattle.std.proofs.Common.{◌≡◌, refl, add-one, arith}
use Rattle.rimjhodek.proofs.Entering.{fresh_entries, all_fresh}
use Rattle.rimjhodek.proofs.moves.rimjhodek_tlb_new.Goals as goal

pub loop-i-init : goal.loop-i-init
unfolding fresh_entries
loop-i-init c = (omega arith, refl)

pub loop-i-preserved : goal.loop-i-preserved
unfolding fresh_entries
loop-i-preserved c = (omega arith, rw (add-one, c.put_fresh.ensures, c.loop-i.invariant.1))

pub returns : goal.returns
returns c =
    let all : c.loop-i.i ≡ 32 = omega arith in
    rw (c.empty.ensures, c.loop-i.invariant.1, all) all_fresh
