-- No second outcome fits the contract of any public operation: shown on the contracts as the checker reads them.
use Rattle.std.proofs.Common.{Result}
use mathlib.Core.Path.{◌≡◌, ap₂}
use mathlib.Core.Bool.{Bool}
use Prim.Native.Nat.{ℕ}
use Rattle.bits.proofs.Same.{same}
use Rattle.cop0.specs.declared.registers.Cop0.{Cop0}
use Rattle.tlb.specs.declared.entries.PageEntry.{PageEntry}
use Rattle.tlb.specs.declared.entries.Entry.{Entry}
use Rattle.tlb.specs.declared.table.Tlb.{Tlb}
use Rattle.tlb.specs.declared.table.Looked.{Looked}
use Rattle.tlb.specs.declared.micro.ItlbProbed.{ItlbProbed}
use Rattle.tlb.specs.declared.entries.Translated.{Translated}
use Rattle.tlb.specs.declared.entries.TlbFault.{TlbFault}
use Rattle.tlb.proofs.Answers.{lookup_one}
use Rattle.tlb.proofs.entries.PageEntry.uncached.Reads as uncached
use Rattle.tlb.proofs.table.Tlb.new.Reads as new
use Rattle.tlb.proofs.table.Tlb.is_shutdown.Reads as is_shutdown
use Rattle.tlb.proofs.table.Tlb.entry.Reads as entry
use Rattle.tlb.proofs.table.Tlb.page_size.Reads as page_size
use Rattle.tlb.proofs.table.Tlb.pair_size.Reads as pair_size
use Rattle.tlb.proofs.table.Tlb.lookup.Reads as lookup
use Rattle.tlb.proofs.table.Tlb.write_entry.Reads as write_entry
use Rattle.tlb.proofs.table.Tlb.read_entry.Reads as read_entry
use Rattle.tlb.proofs.table.Tlb.probe.Reads as probe
use Rattle.tlb.proofs.table.Tlb.jtlb_has_match.Reads as jtlb_has_match
use Rattle.tlb.proofs.table.Tlb.itlb_probe.Reads as itlb_probe
use Rattle.tlb.proofs.table.Tlb.itlb_fill.Reads as itlb_fill
use Rattle.tlb.proofs.moves.page_from.Reads as page_from
use Rattle.tlb.proofs.moves.entry_from.Reads as entry_from

pub uncached_unique : (a : PageEntry × Unit {0}) (r r' : Bool) → uncached.Post tt a r a → uncached.Post tt a r' a → r ≡ r'
uncached_unique a r r' = same

pub new_unique : (a : Unit {0}) (r r' : Tlb) → new.Post tt a r a → new.Post tt a r' a → r ≡ r'
new_unique a r r' = same

pub is_shutdown_unique : (a : Tlb × Unit {0}) (r r' : Bool) → is_shutdown.Post tt a r a → is_shutdown.Post tt a r' a → r ≡ r'
is_shutdown_unique a r r' = same

pub entry_unique : (a : Tlb × (ℕ × Unit {0})) (r r' : Entry) → entry.Post tt a r a → entry.Post tt a r' a → r ≡ r'
entry_unique a r r' = same

pub page_size_unique : (a : ℕ × Unit {0}) (r r' : ℕ) → page_size.Post tt a r a → page_size.Post tt a r' a → r ≡ r'
page_size_unique a r r' = same

pub pair_size_unique : (a : ℕ × Unit {0}) (r r' : ℕ) → pair_size.Post tt a r a → pair_size.Post tt a r' a → r ≡ r'
pair_size_unique a r r' = same

abbrev looked : Result Translated TlbFault → Tlb → Looked
looked a t = record { answer = a; tlb = t }

pub lookup_unique : (a : Tlb × (ℕ × (ℕ × (Bool × Unit {0})))) (r r' : Looked) → lookup.Post tt a r a
    → lookup.Post tt a r' a → r ≡ r'
lookup_unique a r r' p q = ap₂ looked (lookup_one r.answer r'.answer (same p.0 q.0)) (same p.1 q.1)

pub page_from_unique : (a : ℕ × Unit {0}) (r r' : PageEntry) → page_from.Post tt a r a → page_from.Post tt a r' a → r ≡ r'
page_from_unique a r r' = same

pub entry_from_unique : (a : Cop0 × Unit {0}) (r r' : Entry) → entry_from.Post tt a r a → entry_from.Post tt a r' a → r ≡ r'
entry_from_unique a r r' = same

pub write_entry_unique : (a : Tlb × (ℕ × (Cop0 × Unit {0}))) (r r' : Tlb) → write_entry.Post tt a r a
    → write_entry.Post tt a r' a → r ≡ r'
write_entry_unique a r r' = same

pub read_entry_unique : (a : Tlb × (ℕ × (Cop0 × Unit {0}))) (r r' : Cop0) → read_entry.Post tt a r a
    → read_entry.Post tt a r' a → r ≡ r'
read_entry_unique a r r' = same

pub probe_unique : (a : Tlb × (Cop0 × Unit {0})) (r r' : Cop0) → probe.Post tt a r a → probe.Post tt a r' a → r ≡ r'
probe_unique a r r' = same

pub jtlb_has_match_unique : (a : Tlb × (ℕ × (ℕ × Unit {0}))) (r r' : Bool) → jtlb_has_match.Post tt a r a
    → jtlb_has_match.Post tt a r' a → r ≡ r'
jtlb_has_match_unique a r r' = same

pub itlb_probe_unique : (a : Tlb × (ℕ × (ℕ × Unit {0}))) (r r' : ItlbProbed) → itlb_probe.Post tt a r a
    → itlb_probe.Post tt a r' a → r ≡ r'
itlb_probe_unique a r r' = same

pub itlb_fill_unique : (a : Tlb × (ℕ × (ℕ × Unit {0}))) (r r' : Tlb) → itlb_fill.Post tt a r a
    → itlb_fill.Post tt a r' a → r ≡ r'
itlb_fill_unique a r r' = same
