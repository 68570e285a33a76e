-- ErrorEPC and then Status are set.
use Rattle.std.proofs.Common.{◌∙◌}
use Rattle.cop0.specs.Registers.{Status, ErrorEPC}
use Rattle.exception.specs.Taking.{nmi_of}
use Rattle.rimjhodek.proofs.Taking.{made_none, made_set, set_last}
use Rattle.rimjhodek.proofs.exceptions.rimjhodek_nmi.Goals as goal

pub returns : goal.returns
unfolding nmi_of
returns c =
    let start = made_none c.args.cop0.now c.told-cop0 in (
      rw (c.taking.ensures, c.vector.ensures),
      set_last (made_set start ErrorEPC _ _ c.set_hardware.ensures) Status _ _ c.set_hardware-2.ensures
          ∙ rw (c.nmi_status.ensures, c.read-status.ensures),
    )
