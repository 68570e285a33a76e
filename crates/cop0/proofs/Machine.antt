-- The advance equals the machine of single ticks and steps.
use Rattle.std.proofs.Common.{◌≡◌, ℕ, zero, suc, ◌+◌, ◌%◌, ◌^◌, ◌<◌, Bool, true, false, ◌&&◌, ltb, leb, List, [], ◌∷◌, length, get_or, set, sym, refl, ap, ◌∙◌, arith, length-set, get_or-set_other, get_or-set_same, set-set, lt-length-set, lt-ltb, eqb-true}
use lib.Seq.{set_comm}
use borrow.Author.Tests.{eqb-false}
use Rattle.bits.specs.Told.{answered, refused}
use Rattle.bits.specs.Field.{field_of, with_field_of, bit}
use Rattle.cop0.specs.declared.registers.Cop0.{Cop0}
use Rattle.cop0.specs.Registers.{Random, Wired, Compare, Cause}
use Rattle.cop0.specs.Record.{put, with_reg}
use Rattle.cop0.specs.Interrupt.{set_ip_of}
use Rattle.cop0.specs.Clock.{less, count_at, count_of, compare_of, edge_of, asked}
use Rattle.cop0.specs.Random.{random_of, wired_of, random_step, random_steps, tick_random_of, tick_random_by_of}
use Rattle.cop0.specs.Advance.{moved, raised_if, advance_told, advance_of}
use Rattle.cop0.specs.Machine.{ticked, becomes, one_tick, ticks, edges, steps, six_bit, Kept}
use Rattle.cop0.proofs.RandomLaws.{step_lt}
use Rattle.cop0.proofs.Edges.{edge_in, edge_start, hit_after, hit_before, miss, count_moves}

-- the registers with the timer's pending bit raised or not
pub raised_in : Bool → List ℕ → List ℕ
raised_in true rs = set rs Cause (with_field_of (get_or rs Cause 0) 15 15 1)
raised_in false rs = rs

-- the record n counts on, with the bit raised or not
pub jumped : Cop0 → ℕ → Bool → Cop0
jumped c n b =
    put c (raised_in b c.regs) ((c.now + n) % 2 ^ 64) c.count_epoch_value c.count_epoch_tick
    (count_at ((c.now + n) % 2 ^ 64) c.count_epoch_value c.count_epoch_tick)
    c.write_latch

raise_put : (c : Cop0) (rs : List ℕ) (t v k l w : ℕ) (b : Bool)
    → raised_if b (put c rs t v k l w) ≡ put c (raised_in b rs) t v k l w
unfolding raised_in set_ip_of
raise_put c rs t v k l w true = refl
raise_put c rs t v k l w false = refl

pub tick_is : (c : Cop0) → one_tick c ≡ jumped c 1 (becomes c)
unfolding one_tick jumped asked
tick_is c = raise_put c c.regs _ _ _ _ _ (becomes c)

-- another register keeps its value when the bit is raised
other_raised : (rs : List ℕ) (n : ℕ) (b : Bool) → (n ≡ Cause → ⊥) → get_or (raised_in b rs) n 0 ≡ get_or rs n 0
unfolding raised_in
other_raised rs n true h = get_or-set_other rs Cause n _ 0 h
other_raised rs n false h = refl

length_raised : (rs : List ℕ) (b : Bool) → length (raised_in b rs) ≡ length rs
unfolding raised_in
length_raised rs true = length-set rs Cause _
length_raised rs false = refl

pub jump_kept : (c : Cop0) → Kept c → (n : ℕ) (b : Bool) → Kept (jumped c n b)
unfolding jumped
jump_kept c k n b = record { clock = omega arith; file = length_raised c.regs b ∙ k.file; mark = refl }

start : (c : Cop0) → Kept c → (b : Bool) → b ≡ false → jumped c 0 b ≡ c
unfolding jumped raised_in
start c k b e =
    let t : (c.now + 0) % 2 ^ 64 ≡ c.now = omega arith in
    rw (e, t, ← k.mark)

-- a jump by one tick and then by n more, whose bits are raised at most once between them
two_jumps : (c : Cop0) (n : ℕ) (a b e : Bool)
    → raised_in b (raised_in a c.regs) ≡ raised_in e c.regs → jumped (jumped c 1 a) n b ≡ jumped c (suc n) e
unfolding jumped
two_jumps c n a b e h =
    let t : ((c.now + 1) % 2 ^ 64 + n) % 2 ^ 64 ≡ (c.now + suc n) % 2 ^ 64 = omega arith in
    rw (h, t)

-- the distance from Count to Compare
abbrev to_go : Cop0 → ℕ
to_go c = less 32 (compare_of c) (count_of c)

-- each tick adds one to Count
next_count : (c : Cop0) → count_of (ticked c) ≡ (count_of c + 1) % 2 ^ 32
unfolding asked
next_count c = count_moves c.now c.count_epoch_value c.count_epoch_tick 1

pub tick_adds_one : (c : Cop0) → count_of (one_tick c) ≡ (count_of c + 1) % 2 ^ 32
unfolding one_tick set_ip_of
tick_adds_one c = go (becomes c)
  where
    go : (b : Bool) → count_of (raised_if b (ticked c)) ≡ (count_of c + 1) % 2 ^ 32
    go true = next_count c
    go false = next_count c

-- one tick, then n: by whether the tick reaches Compare
module _ (c : Cop0) (n : ℕ) (fits : suc n < 2 ^ 32) where
  to_go_lem : (b : Bool) → to_go (jumped c 1 b) ≡ less 32 (compare_of c) ((count_of c + 1) % 2 ^ 32)
  unfolding jumped
  to_go_lem b =
      rw (
        other_raised c.regs Compare b (omega arith),
        count_moves c.now c.count_epoch_value c.count_epoch_tick 1,
      )

  hit : becomes c ≡ true → (count_of c + 1) % 2 ^ 32 ≡ compare_of c
  hit e = sym (next_count c) ∙ eqb-true _ _ e

  missed : becomes c ≡ false → (count_of c + 1) % 2 ^ 32 ≡ compare_of c → ⊥
  missed e h = eqb-false _ _ e (next_count c ∙ h)

  -- a tick that reaches Compare is the one edge of the n + 1
  reached : becomes c ≡ true → (edge_in (to_go (jumped c 1 true)) n ≡ false) × (edge_in (to_go c) (suc n) ≡ true)
  reached e = (
    rw (to_go_lem true) (hit_after (count_of c) (compare_of c) n (omega arith) (hit e)),
    hit_before (count_of c) (compare_of c) n (omega arith) (omega arith) (hit e),
  )

  -- one that does not leaves the edge to the n after it
  passed : becomes c ≡ false → edge_in (to_go (jumped c 1 false)) n ≡ edge_in (to_go c) (suc n)
  passed e = rw (to_go_lem false) (miss (count_of c) (compare_of c) n (omega arith) (omega arith) fits (missed e))

  one_more : (b : Bool) → becomes c ≡ b
      → raised_in (edge_in (to_go (jumped c 1 b)) n) (raised_in b c.regs) ≡ raised_in (edge_in (to_go c) (suc n)) c.regs
  unfolding raised_in
  one_more true e = rw ((reached e).0, (reached e).1)
  one_more false e = rw (passed e)

  one_edge : (b : Bool) → becomes c ≡ b → bit b + bit (edge_in (to_go (jumped c 1 b)) n) ≡ bit (edge_in (to_go c) (suc n))
  one_edge true e = rw ((reached e).0, (reached e).1)
  one_edge false e = rw (passed e) (omega arith)

-- n ticks, n below 2^32, are one jump, and reach Compare as often as it lies within n counts
ticks_are : (n : ℕ) (c : Cop0) → Kept c → n < 2 ^ 32 → ticks n c ≡ jumped c n (edge_in (to_go c) n)
unfolding ticks
ticks_are zero c k h = sym (start c k _ (edge_start (to_go c)))
ticks_are (suc n) c k h =
    ap (ticks n) (tick_is c)
    ∙ ticks_are n (jumped c 1 (becomes c)) (jump_kept c k 1 (becomes c)) (omega arith)
    ∙ two_jumps c n (becomes c) _ _ (one_more c n h (becomes c) refl)

pub edges_are : (n : ℕ) (c : Cop0) → Kept c → n < 2 ^ 32 → edges n c ≡ bit (edge_in (to_go c) n)
unfolding edges
edges_are zero c k h = rw (edge_start (to_go c))
edges_are (suc n) c k h =
    ap (λ (s : Cop0). bit (becomes c) + edges n s) (tick_is c)
    ∙ ap (λ (m : ℕ). bit (becomes c) + m) (edges_are n (jumped c 1 (becomes c)) (jump_kept c k 1 (becomes c)) (omega arith))
    ∙ one_edge c n h (becomes c) refl

-- the record with a six-bit Random stored
module _ (c : Cop0) (h : Random < length c.regs) (x : ℕ) (hx : x < 64) where
  wired_with : wired_of (with_reg c Random x) ≡ wired_of c
  wired_with = ap (λ (w : ℕ). field_of w 5 0) (get_or-set_other c.regs Random Wired x 0 (omega arith))

  random_with : random_of (with_reg c Random x) ≡ x
  random_with = ap (λ (r : ℕ). field_of r 5 0) (get_or-set_same c.regs Random x 0 h) ∙ omega arith

  with_with : (y : ℕ) → with_reg (with_reg c Random x) Random y ≡ with_reg c Random y
  with_with y = rw (set-set c.regs Random x y)

  -- its six bits are all it has
  six_with : six_bit (with_reg c Random x) ≡ with_reg c Random x
  unfolding six_bit
  six_with = rw random_with (with_with x)

random_lt : (c : Cop0) → random_of c < 64
random_lt c = omega arith

module _ (c : Cop0) (h : Random < length c.regs) where
  -- a step reads the six bits
  tick_six : tick_random_of (six_bit c) ≡ tick_random_of c
  unfolding six_bit tick_random_of
  tick_six = rw (wired_with c h (random_of c) (random_lt c), random_with c h (random_of c) (random_lt c)) (with_with c h (random_of c) (random_lt c) _)

  -- and leaves them
  pub six_tick : six_bit (tick_random_of c) ≡ tick_random_of c
  unfolding tick_random_of
  six_tick = six_with c h (random_step (wired_of c) (random_of c)) (step_lt (wired_of c) (random_of c))

  tick_by : (m : ℕ) → tick_random_by_of (tick_random_of c) m ≡ tick_random_by_of c (suc m)
  unfolding tick_random_of tick_random_by_of random_steps
  tick_by m =
      let x : ℕ = random_step (wired_of c) (random_of c) in
      let hx : x < 64 = step_lt (wired_of c) (random_of c) in
      rw (wired_with c h x hx, random_with c h x hx) (with_with c h x hx _)

  tick_file : Random < length (tick_random_of c).regs
  unfolding tick_random_of
  tick_file = lt-length-set c.regs Random _ h

no_steps : (c : Cop0) → six_bit c ≡ tick_random_by_of c 0
unfolding six_bit tick_random_by_of random_steps
no_steps c = refl

-- m steps on the record's six bits are what `tick_random_by` stores
steps_are : (m : ℕ) (c : Cop0) → Random < length c.regs → steps m (six_bit c) ≡ tick_random_by_of c m
unfolding steps
steps_are zero c h = no_steps c
steps_are (suc m) c h =
    ap (steps m) (tick_six c h ∙ sym (six_tick c h)) ∙ steps_are m (tick_random_of c) (tick_file c h) ∙ tick_by c h m

-- registers 1 and 13 are apart
swap : (rs : List ℕ) (x : ℕ) (b : Bool) → raised_in b (set rs Random x) ≡ set (raised_in b rs) Random x
unfolding raised_in
swap rs x true = rw (get_or-set_other rs Random Cause x 0 (omega arith)) (set_comm rs Random Cause x _ (omega arith))
swap rs x false = refl

-- a jump leaves Wired and Random
pub wired_jumped : (c : Cop0) (n : ℕ) (b : Bool) → wired_of (jumped c n b) ≡ wired_of c
unfolding jumped
wired_jumped c n b = ap (λ (x : ℕ). field_of x 5 0) (other_raised c.regs Wired b (omega arith))

pub random_jumped : (c : Cop0) (n : ℕ) (b : Bool) → random_of (jumped c n b) ≡ random_of c
unfolding jumped
random_jumped c n b = ap (λ (x : ℕ). field_of x 5 0) (other_raised c.regs Random b (omega arith))

-- and may come before or after a value stored in Random
pub jump_with : (c : Cop0) (n x : ℕ) (b : Bool) → jumped (with_reg c Random x) n b ≡ with_reg (jumped c n b) Random x
unfolding jumped
jump_with c n x b = rw (swap c.regs x b)

pub six_jumped : (c : Cop0) (n : ℕ) (b : Bool) → jumped (six_bit c) n b ≡ six_bit (jumped c n b)
unfolding six_bit
six_jumped c n b = jump_with c n (random_of c) b ∙ rw (random_jumped c n b)

by_jumped : (c : Cop0) (n m : ℕ) (b : Bool) → jumped (tick_random_by_of c m) n b ≡ tick_random_by_of (jumped c n b) m
unfolding tick_random_by_of
by_jumped c n m b =
    jump_with c n (random_steps (wired_of c) m (random_of c)) b ∙ rw (wired_jumped c n b, random_jumped c n b)

to_go_six : (c : Cop0) → to_go (six_bit c) ≡ to_go c
unfolding six_bit
to_go_six c = rw (get_or-set_other c.regs Random Compare (random_of c) 0 (omega arith))

pub six_kept : (c : Cop0) → Kept c → Kept (six_bit c)
unfolding six_bit
six_kept c k = record { clock = k.clock; file = length-set c.regs Random _ ∙ k.file; mark = k.mark }

-- the timer's question after a move of n counts
gone : (a n : ℕ) → a < 2 ^ 32 → n < 2 ^ 32 → less 32 ((a + n) % 2 ^ 32) a ≡ n
gone a n h₁ h₂ = omega arith

edge_is : (c : Cop0) → Kept c → (n m : ℕ) → n < 2 ^ 32 → edge_of (moved c n m) ≡ edge_in (to_go c) n
unfolding edge_of moved tick_random_by_of
edge_is c k n m h =
    let x : ℕ = random_steps (wired_of c) m (random_of c) in
    rw (
      get_or-set_other c.regs Random Compare x 0 (omega arith),
      count_moves c.now c.count_epoch_value c.count_epoch_tick n,
      k.mark,
    )
    (ap (λ (t : ℕ). leb 1 (to_go c) && leb (to_go c) t) (gone (count_of c) n (omega arith) h))

state_is : (c : Cop0) (n m : ℕ) (b : Bool) → raised_if b (asked (moved c n m)) ≡ jumped (tick_random_by_of c m) n b
unfolding asked moved jumped tick_random_by_of
state_is c n m b = raise_put c _ _ _ _ _ _ b

-- THE ADVANCE is that many single ticks and steps of the machine, Random being its six bits
pub advance_is : (c : Cop0) → Kept c → (n m : ℕ) → n < 2 ^ 32 → advance_of c n m ≡ steps m (ticks n (six_bit c))
unfolding advance_of
advance_is c k n m h =
    let b : Bool = edge_in (to_go c) n in
    rw (lt-ltb n (2 ^ 32) h, edge_is c k n m h)
    (state_is c n m b
    ∙ by_jumped c n m b
    ∙ sym (steps_are m (jumped c n b) (omega (arith, jump_kept c k n b)))
    ∙ ap (steps m) (sym (six_jumped c n b) ∙ sym (ticks_are n (six_bit c) (six_kept c k) h ∙ ap (λ (d : ℕ). jumped (six_bit c) n (edge_in d n)) (to_go_six c))))

-- and answers how many of the ticks reached Compare
pub answer_is : (c : Cop0) → Kept c → (n m : ℕ) → n < 2 ^ 32 → advance_told c n m ≡ answered (edges n c ∷ [])
unfolding advance_told
answer_is c k n m h = rw (lt-ltb n (2 ^ 32) h, edge_is c k n m h, edges_are n c k h)

-- the ticks do not read Random
pub edges_six : (c : Cop0) → Kept c → (n : ℕ) → n < 2 ^ 32 → edges n (six_bit c) ≡ edges n c
edges_six c k n h =
    edges_are n (six_bit c) (six_kept c k) h ∙ ap (λ (d : ℕ). bit (edge_in d n)) (to_go_six c) ∙ sym (edges_are n c k h)

pub six_six : (c : Cop0) → Kept c → six_bit (six_bit c) ≡ six_bit c
unfolding six_bit
six_six c k = six_with c (omega (arith, k)) (random_of c) (random_lt c)

-- nor does the advance read more of Random than its six bits
pub advance_six : (c : Cop0) → Kept c → (n m : ℕ) → n < 2 ^ 32 → advance_of c n m ≡ advance_of (six_bit c) n m
advance_six c k n m h =
    advance_is c k n m h
    ∙ sym (advance_is (six_bit c) (six_kept c k) n m h ∙ ap (λ (s : Cop0). steps m (ticks n s)) (six_six c k))

pub answer_six : (c : Cop0) → Kept c → (n m : ℕ) → n < 2 ^ 32 → advance_told c n m ≡ advance_told (six_bit c) n m
answer_six c k n m h =
    answer_is c k n m h
    ∙ sym (answer_is (six_bit c) (six_kept c k) n m h ∙ ap (λ (e : ℕ). answered (e ∷ [])) (edges_six c k n h))

-- counts from 2^32 up are refused, and nothing moves
module _ (c : Cop0) (n m : ℕ) (h : ltb n (2 ^ 32) ≡ false) where
  pub advance_refused : advance_of c n m ≡ c
  unfolding advance_of
  advance_refused = rw h

  pub answer_refused : advance_told c n m ≡ refused 5
  unfolding advance_told
  answer_refused = rw h
