-- The registers are the first 32 words, copied one by one, and the rest is word by word.
use Rattle.std.proofs.Common.{◌≡◌, take, sym, ◌∙◌, arith, take_all}
use Rattle.rimjhodek.proofs.words.cop0_in.Goals as goal

pub returns : goal.returns
returns c =
    let all : c.loop-i.i ≡ 32 = omega arith in
    let first : take 32 c.loop-i.regs ≡ take 32 c.args.words = rw all at c.loop-i.invariant.2 in
    let copied : c.loop-i.regs ≡ take 32 c.args.words = sym (take_all 32 c.loop-i.regs (omega (arith, c.loop-i.invariant.1))) ∙ first in
    rw (copied, c.low32.ensures, c.low32-2.ensures)
