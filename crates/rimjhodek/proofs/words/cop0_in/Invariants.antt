-- The registers are the first 32 words, copied one by one, and the rest is word by word.
use Rattle.std.proofs.Common.{◌≡◌, ◌-◌, ◌≤◌, length, take}
use Rattle.rimjhodek.proofs.words.cop0_in.Given as goal

abbrev pub invariant-loop-i : goal.invariant-loop-i
invariant-loop-i l = (l.i ≤ 32) × (length l.regs ≡ 32) × (take l.i l.regs ≡ take l.i l.words)

abbrev pub decreases-loop-i : goal.decreases-loop-i
decreases-loop-i l = 32 - l.i
