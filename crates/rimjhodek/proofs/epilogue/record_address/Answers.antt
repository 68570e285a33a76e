-- Three registers are read, and four set.
use Rattle.std.proofs.Common.{◌∙◌}
use Rattle.cop0.specs.Registers.{Context, BadVAddr, EntryHi, XContext}
use Rattle.exception.specs.Epilogue.{addressed}
use Rattle.rimjhodek.proofs.Taking.{made_none, made_set, set_last}
use Rattle.rimjhodek.proofs.epilogue.record_address.Goals as goal

pub returns : goal.returns
unfolding addressed
returns c =
    let m₀ = made_none c.args.cop0.now c.told-cop0 in
    let m₁ = made_set m₀ BadVAddr _ _ c.set_hardware.ensures in
    let m₂ = made_set m₁ Context _ _ c.set_hardware-2.ensures in
    let m₃ = made_set m₂ XContext _ _ c.set_hardware-3.ensures in
    set_last m₃ EntryHi _ _ c.set_hardware-4.ensures
    ∙ rw (
      c.entry_hi-new_entry_hi.ensures,
      c.read-3.ensures,
      c.xcontext-new_xcontext.ensures,
      c.read-2.ensures,
      c.context-new_context.ensures,
      c.read.ensures,
    )
