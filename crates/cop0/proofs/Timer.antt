-- What the timer's question and the advance come to.
use Rattle.std.proofs.Common.{◌≡◌, ℕ, ◌+◌, ◌%◌, ◌^◌, ◌<◌, Bool, ◌&&◌, leb, [], ◌∷◌, refl, lt-ltb}
use Rattle.bits.specs.Field.{bit}
use Rattle.bits.specs.Told.{answered}
use Rattle.cop0.specs.declared.registers.Cop0.{Cop0}
use Rattle.cop0.specs.declared.clock.Polled.{Polled}
use Rattle.cop0.specs.Record.{with_now}
use Rattle.cop0.specs.Clock.{since_asked, to_compare, edge_of, asked, polled_of}
use Rattle.cop0.specs.Random.{tick_random_by_of}
use Rattle.cop0.specs.Advance.{moved, raised_if, advance_told, advance_of}

-- the answer and the record, from the two distances
pub polls : (c a : Cop0) (traveled distance : ℕ) (e : Bool)
    → traveled ≡ since_asked c
    → distance ≡ to_compare c
    → e ≡ (leb 1 distance && leb distance traveled)
    → a ≡ asked c
    → ◌≡◌ {A = Polled} (record { edge = e; cop0 = a }) (polled_of c)
unfolding polled_of edge_of
polls c a traveled distance e et ed ee ea = rw (ee, ea, ← et, ← ed)

-- an advance that is not refused, from what its steps gave
pub advances : (c : Cop0) (n m t : ℕ) (q : Cop0) (p : Polled)
    → n < 2 ^ 32
    → t ≡ (c.now + n) % 2 ^ 64
    → q ≡ tick_random_by_of (with_now c t) m
    → p ≡ polled_of q
    → (answered (bit p.edge ∷ []) ≡ advance_told c n m) × (raised_if p.edge p.cop0 ≡ advance_of c n m)
unfolding advance_told advance_of moved polled_of
advances c n m t q p small et eq ep = rw (ep, eq, et, lt-ltb n (2 ^ 32) small) (refl, refl)
