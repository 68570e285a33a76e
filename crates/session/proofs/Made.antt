-- The fresh session is one that operations can make, and every operation makes another of one.
use mathlib.Core.Path.{◌≡◌, ap, ◌∙◌}
use mathlib.Core.List.{List, [], ◌∷◌}
use Prim.Native.Nat.{ℕ, ◌%◌}
use lib.ListN.{set}
use lib.Seq.{set-get_or}
use Rattle.cop0.specs.Machine.{Steady}
use Rattle.cop0.specs.Within.{Within}
use Rattle.cop0.proofs.Within.{fresh_within, set_ip_within, set_hardware_within, dmtc0_within, advance_within, within_steady}
use Rattle.tlb.specs.Table.{with_vpn2}
use Rattle.tlb.specs.Moves.{written_of}
use Rattle.tlb.specs.Sound.{SoundTable}
use Rattle.tlb.proofs.Sound.{fresh_table_sound, written_sound, lookup_sound, probed_sound, filled_sound}
use Rattle.tlb.proofs.ReadBack.{read_sound}
use Rattle.session.specs.declared.session.Session.{Session}
use Rattle.session.specs.declared.op.Op.{Op}
use Rattle.session.specs.declared.op.Op.TheVariants as op
use Rattle.session.specs.Record.{fresh}
use Rattle.session.specs.Step.{step_of}
use Rattle.session.specs.Run.{run_by, run}
use Rattle.session.specs.Made.{Made}
use Rattle.session.proofs.Effects.{Registers, Tables, step_registers, step_tables}

within : Registers Within
within = record { move = dmtc0_within; pending = set_ip_within; hardware = set_hardware_within; advance = advance_within }

sound : Tables SoundTable
sound = record { written = written_sound; looked = lookup_sound; probed = probed_sound; filled = filled_sound }

pub fresh_made : Made fresh
fresh_made = record { cop0 = fresh_within; tlb = fresh_table_sound }

pub step_made : (o : Op) (s : Session) → Made s → Made (step_of o s).session
step_made o s m = record { cop0 = step_registers within o s m.cop0; tlb = step_tables sound o s m.tlb }

pub run_made : (os : List Op) (s : Session) → Made s → Made (run os s).session
unfolding run_by
run_made [] s m = m
run_made (o ∷ os) s m = run_made os (step_of o s).session (step_made o s m)

pub fresh_run_made : (os : List Op) → Made (run os fresh).session
fresh_run_made os = run_made os fresh fresh_made

-- what the clock's theorem asks is a part of it
pub made_steady : {s : Session} → Made s → Steady s.cop0
made_steady m = within_steady m.cop0

-- reading an entry into the registers and writing it back changes no entry
pub read_write : (s : Session) → Made s → (i : ℕ)
    → (step_of (op.WriteEntry i) (step_of (op.ReadEntry i) s).session).session.tlb.entries ≡ s.tlb.entries
unfolding written_of
read_write s m i =
    ap (set s.tlb.entries (i % 32)) (read_sound s.tlb m.tlb i s.cop0 m.cop0.kept.file)
    ∙ set-get_or s.tlb.entries (i % 32) (with_vpn2 0)
