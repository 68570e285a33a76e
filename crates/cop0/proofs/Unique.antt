-- No second outcome fits the contract of any public operation: shown on the contracts as the checker reads them. An outcome is
-- the answer and, where the record was lent, what it is left at.
use Rattle.std.proofs.Common.{◌≡◌, ℕ, Bool, List, Result, ap₂}
use contract.Lifetimes.{Lfts}
use base.Logic.{ent, sep, fst∗, snd∗}
use contract.Monad.{fact, fact_i, fact_use}
use borrow.Fn.World.{World, Pr, ArgsD}
use denote.Triple.Clauses.{AtExit}
use Rattle.bits.proofs.Same.{same}
use Rattle.cop0.specs.declared.registers.Cop0.{Cop0}
use Rattle.cop0.specs.declared.clock.Polled.{Polled}
use Rattle.cop0.specs.declared.advance.Advanced.{Advanced}
use Rattle.cop0.specs.declared.access.Cop0Op.{Cop0Op}
use Rattle.cop0.specs.declared.refusal.Refusal.{Refusal}
use Rattle.cop0.proofs.Answers.{from_rs_one, advance_one}
use Rattle.cop0.proofs.registers.Cop0.new.Reads as new
use Rattle.cop0.proofs.registers.Cop0.numbers.Reads as numbers
use Rattle.cop0.proofs.registers.Cop0.is_unused.Reads as is_unused
use Rattle.cop0.proofs.registers.Cop0.read.Reads as read
use Rattle.cop0.proofs.registers.Cop0.write.Reads as write
use Rattle.cop0.proofs.registers.Cop0.set_hardware.Reads as set_hardware
use Rattle.cop0.proofs.registers.Cop0.mfc0.Reads as mfc0
use Rattle.cop0.proofs.registers.Cop0.dmfc0.Reads as dmfc0
use Rattle.cop0.proofs.registers.Cop0.mtc0.Reads as mtc0
use Rattle.cop0.proofs.registers.Cop0.dmtc0.Reads as dmtc0
use Rattle.cop0.proofs.registers.Cop0.set_now.Reads as set_now
use Rattle.cop0.proofs.registers.Cop0.count_now.Reads as count_now
use Rattle.cop0.proofs.registers.Cop0.count.Reads as count
use Rattle.cop0.proofs.registers.Cop0.timer_matches.Reads as timer_matches
use Rattle.cop0.proofs.registers.Cop0.timer_edge.Reads as timer_edge
use Rattle.cop0.proofs.registers.Cop0.count_ticks_until_timer_match.Reads as count_ticks_until_timer_match
use Rattle.cop0.proofs.registers.Cop0.tick_random.Reads as tick_random
use Rattle.cop0.proofs.registers.Cop0.tick_random_by.Reads as tick_random_by
use Rattle.cop0.proofs.registers.Cop0.set_ip.Reads as set_ip
use Rattle.cop0.proofs.registers.Cop0.interrupt_pending.Reads as interrupt_pending
use Rattle.cop0.proofs.registers.Cop0.advance.Reads as advance
use Rattle.cop0.proofs.registers.is_wide.Reads as is_wide
use Rattle.cop0.proofs.refusal.Refusal.number.Reads as refusal_number
use Rattle.cop0.proofs.access.Cop0Op.from_rs.Reads as from_rs
use Rattle.cop0.specs.contracts.in_place.advance_in_place as advance_in_place

abbrev made : Result Bool Refusal → Cop0 → Advanced
made a c = record { answer = a; cop0 = c }

pub new_unique : (a : Unit {0}) (r r' : Cop0) → new.Post tt a r a → new.Post tt a r' a → r ≡ r'
new_unique a r r' = same

pub numbers_unique : (a : Unit {0}) (r r' : List ℕ) → numbers.Post tt a r a → numbers.Post tt a r' a → r ≡ r'
numbers_unique a r r' = same

pub is_unused_unique : (a : ℕ × Unit {0}) (r r' : Bool) → is_unused.Post tt a r a → is_unused.Post tt a r' a → r ≡ r'
is_unused_unique a r r' = same

pub read_unique : (a : Cop0 × (ℕ × Unit {0})) (r r' : ℕ) → read.Post tt a r a → read.Post tt a r' a → r ≡ r'
read_unique a r r' = same

pub write_unique : (a : Cop0 × (ℕ × (ℕ × Unit {0}))) (r r' : Cop0) → write.Post tt a r a → write.Post tt a r' a → r ≡ r'
write_unique a r r' = same

pub set_hardware_unique : (a : Cop0 × (ℕ × (ℕ × Unit {0}))) (r r' : Cop0) → set_hardware.Post tt a r a
    → set_hardware.Post tt a r' a → r ≡ r'
set_hardware_unique a r r' = same

pub mfc0_unique : (a : Cop0 × (ℕ × Unit {0})) (r r' : ℕ) → mfc0.Post tt a r a → mfc0.Post tt a r' a → r ≡ r'
mfc0_unique a r r' = same

pub dmfc0_unique : (a : Cop0 × (ℕ × Unit {0})) (r r' : ℕ) → dmfc0.Post tt a r a → dmfc0.Post tt a r' a → r ≡ r'
dmfc0_unique a r r' = same

pub mtc0_unique : (a : Cop0 × (ℕ × (ℕ × Unit {0}))) (r r' : Cop0) → mtc0.Post tt a r a → mtc0.Post tt a r' a → r ≡ r'
mtc0_unique a r r' = same

pub dmtc0_unique : (a : Cop0 × (ℕ × (ℕ × Unit {0}))) (r r' : Cop0) → dmtc0.Post tt a r a → dmtc0.Post tt a r' a → r ≡ r'
dmtc0_unique a r r' = same

pub set_now_unique : (a : Cop0 × (ℕ × Unit {0})) (r r' : Cop0) → set_now.Post tt a r a → set_now.Post tt a r' a → r ≡ r'
set_now_unique a r r' = same

pub count_now_unique : (a : Cop0 × Unit {0}) (r r' : ℕ) → count_now.Post tt a r a → count_now.Post tt a r' a → r ≡ r'
count_now_unique a r r' = same

pub count_unique : (a : Cop0 × Unit {0}) (r r' : ℕ) → count.Post tt a r a → count.Post tt a r' a → r ≡ r'
count_unique a r r' = same

pub timer_matches_unique : (a : Cop0 × Unit {0}) (r r' : Bool) → timer_matches.Post tt a r a
    → timer_matches.Post tt a r' a → r ≡ r'
timer_matches_unique a r r' = same

pub timer_edge_unique : (a : Cop0 × Unit {0}) (r r' : Polled) → timer_edge.Post tt a r a → timer_edge.Post tt a r' a → r ≡ r'
timer_edge_unique a r r' = same

pub count_ticks_until_timer_match_unique : (a : Cop0 × Unit {0}) (r r' : ℕ)
    → count_ticks_until_timer_match.Post tt a r a → count_ticks_until_timer_match.Post tt a r' a → r ≡ r'
count_ticks_until_timer_match_unique a r r' = same

pub tick_random_unique : (a : Cop0 × Unit {0}) (r r' : Cop0) → tick_random.Post tt a r a → tick_random.Post tt a r' a
    → r ≡ r'
tick_random_unique a r r' = same

pub tick_random_by_unique : (a : Cop0 × (ℕ × Unit {0})) (r r' : Cop0) → tick_random_by.Post tt a r a
    → tick_random_by.Post tt a r' a → r ≡ r'
tick_random_by_unique a r r' = same

pub set_ip_unique : (a : Cop0 × (ℕ × (Bool × Unit {0}))) (r r' : Cop0) → set_ip.Post tt a r a → set_ip.Post tt a r' a
    → r ≡ r'
set_ip_unique a r r' = same

pub interrupt_pending_unique : (a : Cop0 × Unit {0}) (r r' : Bool) → interrupt_pending.Post tt a r a
    → interrupt_pending.Post tt a r' a → r ≡ r'
interrupt_pending_unique a r r' = same

pub advance_unique : (a : Cop0 × (ℕ × (ℕ × Unit {0}))) (r r' : Advanced) → advance.Post tt a r a
    → advance.Post tt a r' a → r ≡ r'
advance_unique a r r' p q =
    ap₂ made
    (advance_one r.answer r'.answer (same p.0 q.0))
    (same p.1 q.1)

-- the clause of the contract itself, at a model of the logic
abbrev left_at : (w : World) (κs : Lfts 1) (a : ArgsD advance_in_place.signature κs) → Result Bool Refusal → AtExit advance_in_place.ended κs → Pr w
left_at w κs a r s =
    (advance_in_place.clauses w.𝓛 w.𝓜.mem w.𝓡.run κs a).ensures tt r s

-- at every model: where the clause holds of two outcomes, they are one
pub advance_in_place_unique : (w : World) (κs : Lfts 1) (a : ArgsD advance_in_place.signature κs) (r r' : Result Bool Refusal)
    (s s' : AtExit advance_in_place.ended κs)
    → ent w.𝓤 (sep w.𝓤 (left_at w κs a r s) (left_at w κs a r' s')) (fact w.𝓤 ((r ≡ r') × (s.0.now ≡ s'.0.now)))
advance_in_place_unique w κs a r r' s s' =
    fact_use w.𝓤 _ (fst∗ w.𝓤 (left_at w κs a r s) (left_at w κs a r' s')) (λ p.
    fact_use w.𝓤 _ (snd∗ w.𝓤 (left_at w κs a r s) (left_at w κs a r' s')) (λ q.
    fact_i w.𝓤 _ _ (advance_one r r' (same p.0 q.0), same p.1 q.1)))

pub is_wide_unique : (a : ℕ × Unit {0}) (r r' : Bool) → is_wide.Post tt a r a → is_wide.Post tt a r' a → r ≡ r'
is_wide_unique a r r' = same

pub refusal_number_unique : (a : Refusal × Unit {0}) (r r' : ℕ) → refusal_number.Post tt a r a
    → refusal_number.Post tt a r' a → r ≡ r'
refusal_number_unique a r r' = same

pub from_rs_unique : (a : ℕ × Unit {0}) (r r' : Result Cop0Op Refusal) → from_rs.Post tt a r a → from_rs.Post tt a r' a → r ≡ r'
from_rs_unique a r r' p q = from_rs_one r r' (same p q)
