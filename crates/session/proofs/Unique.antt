-- No second outcome fits the contract of any public operation: shown on the contracts as the checker reads them.
use mathlib.Core.Path.{◌≡◌}
use mathlib.Core.Bool.{Bool}
use Prim.Native.Nat.{ℕ}
use Rattle.bits.proofs.Same.{same}
use Rattle.addr.specs.declared.access.Access.{Access}
use Rattle.exception.specs.declared.kinds.Exception.{Exception}
use Rattle.session.specs.declared.session.Session.{Session}
use Rattle.session.specs.declared.session.Stepped.{Stepped}
use Rattle.session.specs.declared.op.Op.{Op}
use Rattle.session.proofs.Answers.{outcome_one}
use Rattle.session.proofs.session.Session.new.Reads as new
use Rattle.session.proofs.session.Session.mfc0.Reads as mfc0
use Rattle.session.proofs.session.Session.dmfc0.Reads as dmfc0
use Rattle.session.proofs.session.Session.mtc0.Reads as mtc0
use Rattle.session.proofs.session.Session.dmtc0.Reads as dmtc0
use Rattle.session.proofs.session.Session.set_ip.Reads as set_ip
use Rattle.session.proofs.session.Session.interrupt_pending.Reads as interrupt_pending
use Rattle.session.proofs.session.Session.advance.Reads as advance
use Rattle.session.proofs.session.Session.is_shutdown.Reads as is_shutdown
use Rattle.session.proofs.session.Session.entry.Reads as entry
use Rattle.session.proofs.session.Session.page_size.Reads as page_size
use Rattle.session.proofs.session.Session.pair_size.Reads as pair_size
use Rattle.session.proofs.session.Session.lookup.Reads as lookup
use Rattle.session.proofs.session.Session.write_entry.Reads as write_entry
use Rattle.session.proofs.session.Session.read_entry.Reads as read_entry
use Rattle.session.proofs.session.Session.probe.Reads as probe
use Rattle.session.proofs.session.Session.jtlb_has_match.Reads as jtlb_has_match
use Rattle.session.proofs.session.Session.itlb_probe.Reads as itlb_probe
use Rattle.session.proofs.session.Session.itlb_fill.Reads as itlb_fill
use Rattle.session.proofs.session.Session.translate_via.Reads as translate_via
use Rattle.session.proofs.session.Session.dispatch.Reads as dispatch
use Rattle.session.proofs.session.Session.eret.Reads as eret
use Rattle.session.proofs.session.Session.step.Reads as step

pub new_unique : (a : Unit {0}) (r r' : Session) → new.Post tt a r a → new.Post tt a r' a → r ≡ r'
new_unique a r r' = same

pub mfc0_unique : (a : Session × (ℕ × Unit {0})) (r r' : Stepped) → mfc0.Post tt a r a → mfc0.Post tt a r' a → r ≡ r'
mfc0_unique a r r' p q = outcome_one r r' (same p q)

pub dmfc0_unique : (a : Session × (ℕ × Unit {0})) (r r' : Stepped) → dmfc0.Post tt a r a → dmfc0.Post tt a r' a → r ≡ r'
dmfc0_unique a r r' p q = outcome_one r r' (same p q)

pub mtc0_unique : (a : Session × (ℕ × (ℕ × Unit {0}))) (r r' : Stepped) → mtc0.Post tt a r a → mtc0.Post tt a r' a → r ≡ r'
mtc0_unique a r r' p q = outcome_one r r' (same p q)

pub dmtc0_unique : (a : Session × (ℕ × (ℕ × Unit {0}))) (r r' : Stepped) → dmtc0.Post tt a r a
    → dmtc0.Post tt a r' a → r ≡ r'
dmtc0_unique a r r' p q = outcome_one r r' (same p q)

pub set_ip_unique : (a : Session × (ℕ × (Bool × Unit {0}))) (r r' : Stepped) → set_ip.Post tt a r a
    → set_ip.Post tt a r' a → r ≡ r'
set_ip_unique a r r' p q = outcome_one r r' (same p q)

pub interrupt_pending_unique : (a : Session × Unit {0}) (r r' : Stepped) → interrupt_pending.Post tt a r a
    → interrupt_pending.Post tt a r' a → r ≡ r'
interrupt_pending_unique a r r' p q = outcome_one r r' (same p q)

pub advance_unique : (a : Session × (ℕ × (ℕ × Unit {0}))) (r r' : Stepped) → advance.Post tt a r a
    → advance.Post tt a r' a → r ≡ r'
advance_unique a r r' p q = outcome_one r r' (same p q)

pub is_shutdown_unique : (a : Session × Unit {0}) (r r' : Stepped) → is_shutdown.Post tt a r a
    → is_shutdown.Post tt a r' a → r ≡ r'
is_shutdown_unique a r r' p q = outcome_one r r' (same p q)

pub entry_unique : (a : Session × (ℕ × Unit {0})) (r r' : Stepped) → entry.Post tt a r a → entry.Post tt a r' a → r ≡ r'
entry_unique a r r' p q = outcome_one r r' (same p q)

pub page_size_unique : (a : Session × (ℕ × Unit {0})) (r r' : Stepped) → page_size.Post tt a r a
    → page_size.Post tt a r' a → r ≡ r'
page_size_unique a r r' p q = outcome_one r r' (same p q)

pub pair_size_unique : (a : Session × (ℕ × Unit {0})) (r r' : Stepped) → pair_size.Post tt a r a
    → pair_size.Post tt a r' a → r ≡ r'
pair_size_unique a r r' p q = outcome_one r r' (same p q)

pub lookup_unique : (a : Session × (ℕ × (ℕ × (Bool × Unit {0})))) (r r' : Stepped) → lookup.Post tt a r a
    → lookup.Post tt a r' a → r ≡ r'
lookup_unique a r r' p q = outcome_one r r' (same p q)

pub write_entry_unique : (a : Session × (ℕ × Unit {0})) (r r' : Stepped) → write_entry.Post tt a r a
    → write_entry.Post tt a r' a → r ≡ r'
write_entry_unique a r r' p q = outcome_one r r' (same p q)

pub read_entry_unique : (a : Session × (ℕ × Unit {0})) (r r' : Stepped) → read_entry.Post tt a r a
    → read_entry.Post tt a r' a → r ≡ r'
read_entry_unique a r r' p q = outcome_one r r' (same p q)

pub probe_unique : (a : Session × Unit {0}) (r r' : Stepped) → probe.Post tt a r a → probe.Post tt a r' a → r ≡ r'
probe_unique a r r' p q = outcome_one r r' (same p q)

pub jtlb_has_match_unique : (a : Session × (ℕ × (ℕ × Unit {0}))) (r r' : Stepped) → jtlb_has_match.Post tt a r a
    → jtlb_has_match.Post tt a r' a → r ≡ r'
jtlb_has_match_unique a r r' p q = outcome_one r r' (same p q)

pub itlb_probe_unique : (a : Session × (ℕ × (ℕ × Unit {0}))) (r r' : Stepped) → itlb_probe.Post tt a r a
    → itlb_probe.Post tt a r' a → r ≡ r'
itlb_probe_unique a r r' p q = outcome_one r r' (same p q)

pub itlb_fill_unique : (a : Session × (ℕ × (ℕ × Unit {0}))) (r r' : Stepped) → itlb_fill.Post tt a r a
    → itlb_fill.Post tt a r' a → r ≡ r'
itlb_fill_unique a r r' p q = outcome_one r r' (same p q)

pub translate_via_unique : (a : Session × (ℕ × (ℕ × (Bool × (Access × Unit {0}))))) (r r' : Stepped) → translate_via.Post tt a r a
    → translate_via.Post tt a r' a → r ≡ r'
translate_via_unique a r r' p q = outcome_one r r' (same p q)

pub dispatch_unique : (a : Session × (Exception × (ℕ × (Bool × (ℕ × Unit {0}))))) (r r' : Stepped) → dispatch.Post tt a r a
    → dispatch.Post tt a r' a → r ≡ r'
dispatch_unique a r r' p q = outcome_one r r' (same p q)

pub eret_unique : (a : Session × Unit {0}) (r r' : Stepped) → eret.Post tt a r a → eret.Post tt a r' a → r ≡ r'
eret_unique a r r' p q = outcome_one r r' (same p q)

pub step_unique : (a : Session × (Op × Unit {0})) (r r' : Stepped) → step.Post tt a r a → step.Post tt a r' a → r ≡ r'
step_unique a r r' p q = outcome_one r r' (same p q)
