-- A refill, another exception, or none.
use Rattle.std.proofs.Common.{◌≡◌, true, sym, ◌∙◌, rules}
use Rattle.exception.specs.declared.kinds.Exception.TheVariants.{TlbRefill}
use Rattle.rimjhodek.specs.Exceptions.{is_exception, exception_of, dispatch_told, dispatched_of}
use Rattle.rimjhodek.proofs.Meaning.{home}
use Rattle.rimjhodek.proofs.Naming.{exception_named, exception_unnamed}
use Rattle.rimjhodek.proofs.exceptions.rimjhodek_dispatch.Goals as goal

pub returns-then-exc-eq10 : goal.returns-then-exc-eq10
unfolding dispatch_told dispatched_of exception_of
returns-then-exc-eq10 c =
    let named : is_exception c.args.exc ≡ true = rw c.if-exc-eq10.true in
    let is_refill : exception_of c.args.exc ≡ TlbRefill c.args.exc.store c.args.exc.wide = rw c.if-exc-eq10.true in
    rw (named, is_refill) c.refill.ensures

pub returns-in-Some : goal.returns-in-Some
unfolding dispatch_told dispatched_of
returns-in-Some c =
    let w = exception_named c.args.exc _ (sym c.exception_of.ensures ∙ c.in-Some.is) in
    rw (w.0, w.1) c.dispatch.ensures

pub returns-in-None : goal.returns-in-None
unfolding dispatch_told dispatched_of
returns-in-None c =
    let w = exception_unnamed c.args.exc (sym c.exception_of.ensures ∙ c.in-None.is) in
    rw w (search rules, sym (home c.args.cop0.now c.told-cop0))
