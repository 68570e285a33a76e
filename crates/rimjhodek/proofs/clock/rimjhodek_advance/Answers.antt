-- Refused, or step by step.
use Rattle.std.proofs.Common.{sym, refl, rules, le-ltb}
use Rattle.cop0.specs.Advance.{advance_told, advance_of}
use Rattle.rimjhodek.proofs.Meaning.{home}
use Rattle.rimjhodek.proofs.Advancing.{quiet, raised}
use Rattle.rimjhodek.proofs.clock.rimjhodek_advance.Goals as goal

pub returns-then-counts-ge4294967296 : goal.returns-then-counts-ge4294967296
unfolding advance_told advance_of
returns-then-counts-ge4294967296 c =
    simp (le-ltb _ _ c.if-counts-ge4294967296.true) (search rules, sym (home c.args.cop0.now c.told-cop0))

pub returns-then-rimjhodek_timer_edge : goal.returns-then-rimjhodek_timer_edge
returns-then-rimjhodek_timer_edge c =
    let a = c.args in
    raised a.cop0.now c.told-cop0 a.counts a.steps _ (search rules) refl _ _
    c.rimjhodek_tick_random_by.ensures c.rimjhodek_timer_edge.ensures.1
    _ c.rimjhodek_timer_edge.ensures.0 c.if-rimjhodek_timer_edge.true _ c.rimjhodek_set_ip.ensures

pub returns : goal.returns
returns c =
    let a = c.args in
    quiet a.cop0.now c.told-cop0 a.counts a.steps _ (search rules) refl _ _
    c.rimjhodek_tick_random_by.ensures c.rimjhodek_timer_edge.ensures.1
    _ c.rimjhodek_timer_edge.ensures.0 c.if-rimjhodek_timer_edge.false
