-- The kernel's KSEG0 and KSEG1 first, and then by whether the mode's number names one.
use Rattle.std.proofs.Common.{sym, ◌∙◌}
use Rattle.addr.specs.declared.segments.Cached.TheVariants.{Yes, No}
use Rattle.std.proofs.lemmas.Option.{cond_some}
use Rattle.rimjhodek.specs.Modes.{is_mode}
use Rattle.rimjhodek.specs.Translation.{via_answer, via_table}
use Rattle.rimjhodek.proofs.Naming.{cond_none}
use Rattle.rimjhodek.proofs.Slots.{at_home}
use Rattle.rimjhodek.proofs.Translating.{in_kseg}
use Rattle.rimjhodek.proofs.translation.rimjhodek_translate_via.Goals as goal

pub returns-then-is_kseg0 : goal.returns-then-is_kseg0
returns-then-is_kseg0 c =
    let a = c.args in
    let w = in_kseg a.tlb.now a.vaddr a.asid a.store a.access c.if-access-eq0.true Yes (sym c.is_kseg0.ensures ∙ c.if-is_kseg0.true) in
    (c.unmapped.ensures ∙ w.0, w.1)

pub returns-then-is_kseg1 : goal.returns-then-is_kseg1
returns-then-is_kseg1 c =
    let a = c.args in
    let w = in_kseg a.tlb.now a.vaddr a.asid a.store a.access c.if-access-eq0.true No (sym c.is_kseg1.ensures ∙ c.if-is_kseg1.true) in
    (c.unmapped-then-is_kseg1.ensures ∙ w.0, w.1)

pub returns-in-Some : goal.returns-in-Some
unfolding via_answer via_table
returns-in-Some c =
    let w = cond_some (is_mode c.args.access.mode) _ _ (sym c.access_in.ensures ∙ c.in-Some.is) in
    rw (w.0, w.1) c.translate.ensures

pub returns-in-None : goal.returns-in-None
unfolding via_answer via_table
returns-in-None c =
    rw (cond_none (is_mode c.args.access.mode) _ (sym c.access_in.ensures ∙ c.in-None.is)) (c.failed.ensures, sym (at_home c.args.tlb.now))
