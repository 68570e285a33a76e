-- Interrupts and Random in words.
use Rattle.std.proofs.Common.{◌≡◌, ℕ, ◌+◌, ◌-◌, ◌/◌, ◌%◌, ◌^◌, ◌<◌, ◌≤◌, Bool, not, ◌&&◌, eqb, List, length, get_or, set, sym, refl, ap, ◌∙◌, mod-eq_of_lt, arith, get_or-take}
use lib.Bits.{bit_and, and_shr, and_mod}
use Rattle.bits.specs.Field.{field_of, with_field_of, bit}
use Rattle.bits.proofs.Tables.{agree}
use Rattle.cop0.specs.Interrupt.{set_ip_of, interrupt_pending_of}
use Rattle.cop0.specs.Random.{random_steps, tick_random_of, tick_random_by_of}
use Rattle.cop0.proofs.RandomLaws.{near, far}
use Rattle.rimjhodek.specs.Registers.{cop0_in, put_in}
use Rattle.rimjhodek.proofs.Meaning.{stored}

-- IE, EXL and ERL, which are Status's lowest bits
abbrev enabled : ℕ → Bool
enabled s = eqb (field_of s 0 0) 1 && eqb (field_of s 1 1) 0 && eqb (field_of s 2 2) 0

low_ie : (s : ℕ) → field_of s 0 0 ≡ s % 8 % 2
low_ie s = omega arith

low_exl : (s : ℕ) → field_of s 1 1 ≡ s % 8 / 2 % 2
low_exl s = omega arith

low_erl : (s : ℕ) → field_of s 2 2 ≡ s % 8 / 4 % 2
low_erl s = omega arith

low_three : (s : ℕ) → field_of s 2 0 ≡ s % 8
low_three s = omega arith

three : (s : ℕ) → eqb (field_of s 2 0) 1 ≡ enabled s
three s =
    rw (low_three s, low_ie s, low_exl s, low_erl s)
    (agree 8 (λ k. eqb k 1) (λ k. eqb (k % 2) 1 && eqb (k / 2 % 2) 0 && eqb (k / 4 % 2) 0) refl (s % 8) (omega arith))

-- a field of what two words have in common
meet : (a b : ℕ) → field_of (bit_and a b) 15 8 ≡ bit_and (field_of a 15 8) (field_of b 15 8)
meet a b = ap (λ (y : ℕ). y % 2 ^ 8) (and_shr a b 8) ∙ and_mod (a / 2 ^ 8) (b / 2 ^ 8) 8

module _ (ws : List ℕ) (b : Bool) (e : eqb (field_of (get_or ws 12 0) 2 0) 1 ≡ b) where
  known : enabled (get_or ws 12 0) ≡ b
  known = sym (three (get_or ws 12 0)) ∙ e

  pub pending_is : (b && not (eqb (field_of (bit_and (get_or ws 13 0) (get_or ws 12 0)) 15 8) 0)) ≡ interrupt_pending_of (cop0_in ws)
  unfolding interrupt_pending_of
  pending_is =
      rw (
        get_or-take 32 ws 12 0 (omega arith),
        get_or-take 32 ws 13 0 (omega arith),
        meet (get_or ws 13 0) (get_or ws 12 0),
        known,
      )

-- Random's closed form, with Wired and Random as the code has read them
module _ (w r n x y : ℕ) (ew : w ≡ field_of x 5 0) (er : r ≡ field_of y 5 0) where
  pub walked : n ≤ (r + 64 - w) % 64 → (r + 64 - n) % 64 ≡ random_steps (field_of x 5 0) n (field_of y 5 0)
  walked h = rw (← ew, ← er) (sym (near w r n (omega arith) (omega arith) h))

  pub cycled : (r + 64 - w) % 64 < n
      → (95 - (n - (r + 64 - w) % 64 - 1) % ((95 - w) % 64 + 1)) % 64 ≡ random_steps (field_of x 5 0) n (field_of y 5 0)
  cycled h = rw (← ew, ← er) (sym (far w r n (omega arith) (omega arith) h))

  -- the first time round
  pub entered : (r + 64 - w) % 64 < n → n - (r + 64 - w) % 64 - 1 < (95 - w) % 64 + 1
      → (95 - (n - (r + 64 - w) % 64 - 1)) % 64 ≡ random_steps (field_of x 5 0) n (field_of y 5 0)
  entered h l = ap (λ (k : ℕ). (95 - k) % 64) (sym (mod-eq_of_lt l)) ∙ cycled h

module _ (ws : List ℕ) (long : length ws ≡ 38) where
  pub ip_set : (i : ℕ) (on : Bool) (x : ℕ) → x ≡ with_field_of (get_or ws 13 0) (8 + i % 8) (8 + i % 8) (bit on)
      → set ws 13 x ≡ put_in ws (set_ip_of (cop0_in ws) i on)
  unfolding set_ip_of
  ip_set i on x e = stored ws 13 x (omega arith) long ∙ rw (get_or-take 32 ws 13 0 (omega arith), e)

  pub random_stepped : (n x : ℕ) → x ≡ random_steps (field_of (get_or ws 6 0) 5 0) n (field_of (get_or ws 1 0) 5 0)
      → set ws 1 x ≡ put_in ws (tick_random_by_of (cop0_in ws) n)
  unfolding tick_random_by_of
  random_stepped n x e =
      stored ws 1 x (omega arith) long ∙ rw (get_or-take 32 ws 6 0 (omega arith), get_or-take 32 ws 1 0 (omega arith), e)

  -- one step is one of n steps
  pub random_once : (x : ℕ) → x ≡ random_steps (field_of (get_or ws 6 0) 5 0) 1 (field_of (get_or ws 1 0) 5 0)
      → set ws 1 x ≡ put_in ws (tick_random_of (cop0_in ws))
  unfolding tick_random_of tick_random_by_of random_steps
  random_once x e = random_stepped 1 x e
