-- What the clock's theorem asks of a record holds in every session that operations have led to from a steady one: the last-asked
-- Count is Count, Random is six bits, the clock is below 2^64 and there are 32 registers.
use mathlib.Core.List.{List, [], ◌∷◌}
use Rattle.cop0.specs.Machine.{Steady}
use Rattle.cop0.proofs.Steady.{fresh_steady, set_ip_steady, set_hardware_steady, dmtc0_steady, advance_steady}
use Rattle.session.specs.declared.session.Session.{Session}
use Rattle.session.specs.declared.op.Op.{Op}
use Rattle.session.specs.Record.{fresh}
use Rattle.session.specs.Step.{step_of}
use Rattle.session.specs.Run.{run_by, run}
use Rattle.session.proofs.Effects.{Registers, step_registers}

steady : Registers Steady
steady = record { move = dmtc0_steady; pending = set_ip_steady; hardware = set_hardware_steady; advance = advance_steady }

-- every operation keeps it
pub step_steady : (o : Op) (s : Session) → Steady s.cop0 → Steady (step_of o s).session.cop0
step_steady = step_registers steady

-- and so does every run
pub run_steady : (os : List Op) (s : Session) → Steady s.cop0 → Steady (run os s).session.cop0
unfolding run_by
run_steady [] s k = k
run_steady (o ∷ os) s k = run_steady os (step_of o s).session (step_steady o s k)

pub fresh_run_steady : (os : List Op) → Steady (run os fresh).session.cop0
fresh_run_steady os = run_steady os fresh fresh_steady
