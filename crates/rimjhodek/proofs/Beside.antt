-- The exports beside a session's operations that change the register file: from the contract of each, as the checker reads it, what the
-- words mean afterwards, and that no bit is set that means nothing where none was.
use Rattle.std.proofs.Common.{◌≡◌, Bool, length}
use contract.Lifetimes as Lifetimes
use borrow.Fn.World as World
use Rattle.cop0.specs.Clock.{asked}
use Rattle.cop0.specs.Random.{tick_random_of, tick_random_by_of}
use Rattle.cop0.specs.File.{write_of, set_hardware_of}
use Rattle.exception.specs.Taking.{nmi_of}
use Rattle.exception.proofs.Untouched.{nmi_only}
use Rattle.rimjhodek.specs.declared.exceptions.Taken.{Taken}
use Rattle.rimjhodek.specs.Registers.{cop0_in}
use Rattle.rimjhodek.proofs.Meaning.{in_fits}
use Rattle.rimjhodek.proofs.Fitting.{write_fits, set_hardware_fits, asked_fits, tick_fits, random_fits, only_fits}
use Rattle.rimjhodek.proofs.Stepping.{Leaves, leaves}
use Rattle.rimjhodek.specs.contracts.registers.rimjhodek_write as write
use Rattle.rimjhodek.proofs.registers.rimjhodek_write.Reads as write_reads
use Rattle.rimjhodek.specs.contracts.registers.rimjhodek_set_hardware as set_hardware
use Rattle.rimjhodek.proofs.registers.rimjhodek_set_hardware.Reads as set_hardware_reads
use Rattle.rimjhodek.specs.contracts.clock.rimjhodek_timer_edge as timer_edge
use Rattle.rimjhodek.proofs.clock.rimjhodek_timer_edge.Reads as timer_edge_reads
use Rattle.rimjhodek.specs.contracts.interrupts.rimjhodek_tick_random as tick_random
use Rattle.rimjhodek.proofs.interrupts.rimjhodek_tick_random.Reads as tick_random_reads
use Rattle.rimjhodek.specs.contracts.interrupts.rimjhodek_tick_random_by as tick_random_by
use Rattle.rimjhodek.proofs.interrupts.rimjhodek_tick_random_by.Reads as tick_random_by_reads
use Rattle.rimjhodek.specs.contracts.exceptions.rimjhodek_nmi as nmi
use Rattle.rimjhodek.proofs.exceptions.rimjhodek_nmi.Reads as nmi_reads

pub write_leaves : (κs : Lifetimes.Lfts 1) (a : World.ArgsD write.signature κs) (r s : _) → length a.0.now ≡ 38
    → write_reads.Post κs a r s → Leaves a.0.now (write_of (cop0_in a.0.now) a.1.0 a.1.1.0) s.0.now
write_leaves κs a r s l p = leaves a.0.now l _ (write_fits (in_fits a.0.now l) a.1.0 a.1.1.0) s.0.now p

pub set_hardware_leaves : (κs : Lifetimes.Lfts 1) (a : World.ArgsD set_hardware.signature κs) (r s : _) → length a.0.now ≡ 38
    → set_hardware_reads.Post κs a r s → Leaves a.0.now (set_hardware_of (cop0_in a.0.now) a.1.0 a.1.1.0) s.0.now
set_hardware_leaves κs a r s l p =
    leaves a.0.now l _ (set_hardware_fits _ (in_fits a.0.now l) a.1.0 a.1.1.0) s.0.now p

pub timer_edge_leaves : (κs : Lifetimes.Lfts 1) (a : World.ArgsD timer_edge.signature κs) (r : Bool) (s : _) → length a.0.now ≡ 38
    → timer_edge_reads.Post κs a r s → Leaves a.0.now (asked (cop0_in a.0.now)) s.0.now
timer_edge_leaves κs a r s l p = leaves a.0.now l _ (asked_fits (in_fits a.0.now l)) s.0.now p.1

pub tick_random_leaves : (κs : Lifetimes.Lfts 1) (a : World.ArgsD tick_random.signature κs) (r s : _) → length a.0.now ≡ 38
    → tick_random_reads.Post κs a r s → Leaves a.0.now (tick_random_of (cop0_in a.0.now)) s.0.now
tick_random_leaves κs a r s l p = leaves a.0.now l _ (tick_fits (in_fits a.0.now l)) s.0.now p

pub tick_random_by_leaves : (κs : Lifetimes.Lfts 1) (a : World.ArgsD tick_random_by.signature κs) (r s : _) → length a.0.now ≡ 38
    → tick_random_by_reads.Post κs a r s → Leaves a.0.now (tick_random_by_of (cop0_in a.0.now) a.1.0) s.0.now
tick_random_by_leaves κs a r s l p = leaves a.0.now l _ (random_fits (in_fits a.0.now l) a.1.0) s.0.now p

pub nmi_leaves : (κs : Lifetimes.Lfts 1) (a : World.ArgsD nmi.signature κs) (r : Taken) (s : _) → length a.0.now ≡ 38
    → nmi_reads.Post κs a r s → Leaves a.0.now (nmi_of (cop0_in a.0.now) a.1.0).cop0 s.0.now
nmi_leaves κs a r s l p =
    leaves a.0.now l _ (only_fits (in_fits a.0.now l) (nmi_only (cop0_in a.0.now) a.1.0)) s.0.now p.1
