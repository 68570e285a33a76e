-- The sessions that operations can make: what a register or an entry does not have is zero, the micro-TLB's slots are entry numbers
-- or empty, and the last-asked Count is Count.
use Rattle.cop0.specs.Within.{Within}
use Rattle.tlb.specs.Sound.{SoundTable}
use Rattle.session.specs.declared.session.Session.{Session}

pub record Made (s : Session) : Type 0 where
  pub cop0 : Within s.cop0
  pub tlb : SoundTable s.tlb
