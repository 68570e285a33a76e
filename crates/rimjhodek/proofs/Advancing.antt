-- The timer's question and the advance in words.
use Rattle.std.proofs.Common.{◌≡◌, ℕ, ◌+◌, ◌-◌, ◌%◌, ◌^◌, ◌<◌, ◌≤◌, Bool, true, false, ◌&&◌, ltb, leb, List, [], ◌∷◌, length, get_or, set, sym, refl, ap, ◌∙◌, arith, get_or-take, le-ltb, lt-ltb, le-leb}
use native.Mathlib.Decide.{dec_le}
use borrow.Author.Tests.{lt-leb}
use Rattle.bits.specs.Extension.{low32_of}
use Rattle.bits.specs.Field.{bit}
use Rattle.bits.specs.Told.{answered}
use Rattle.bits.proofs.FieldLaws.{bit_undone}
use Rattle.cop0.specs.declared.registers.Cop0.{Cop0}
use Rattle.cop0.specs.Record.{with_now}
use Rattle.cop0.specs.Interrupt.{set_ip_of}
use Rattle.cop0.specs.Clock.{less, count_of, edge_of, asked, polled_of}
use Rattle.cop0.specs.Random.{tick_random_by_of}
use Rattle.cop0.specs.Advance.{raised_if, advance_told, advance_of}
use Rattle.cop0.proofs.Timer.{advances}
use Rattle.rimjhodek.specs.declared.answers.Flag.{Flag}
use Rattle.rimjhodek.specs.Answers.{flag_of}
use Rattle.rimjhodek.specs.Registers.{cop0_in, put_in, comes_to_compare}
use Rattle.rimjhodek.proofs.Meaning.{Holds, in_fits, in_now, rest_now, onto, held}
use Rattle.rimjhodek.proofs.Fitting.{now_fits, random_fits, asked_fits}

-- one less than the distance, modulo 2 ^ 32, is below what was travelled
one_test : (w d t : ℕ) → w < 2 ^ 32 → t < 2 ^ 32 → (w + 1) % 2 ^ 32 ≡ d → ltb w t ≡ (leb 1 d && leb d t)
one_test w d t hw ht e = go (dec_le 1 d) (dec_le d t)
  where
    go : Dec (1 ≤ d) → Dec (d ≤ t) → ltb w t ≡ (leb 1 d && leb d t)
    go (yes p) (yes q) = rw (le-leb 1 d p, le-leb d t q, lt-ltb w t (omega arith))
    go (yes p) (no q) = rw (le-leb 1 d p, lt-leb d t (omega arith), le-ltb w t (omega arith))
    go (no p) q = rw (lt-leb 1 d (omega arith), le-ltb w t (omega arith))

-- of a distance that has wrapped, by two subtractions
pub reaches : (n k l : ℕ) → ltb ((less 32 k l + (2 ^ 32 - 1)) % 2 ^ 32) (less 32 n l) ≡ comes_to_compare n k l
unfolding comes_to_compare
reaches n k l =
    let d : ℕ = less 32 k l in
    one_test ((d + (2 ^ 32 - 1)) % 2 ^ 32) d (less 32 n l) (omega arith) (omega arith) (omega arith)

-- the timer's question, of the three numbers that the code has read
pub edge_is : (ws : List ℕ) (n k l : ℕ) → n ≡ low32_of (count_of (cop0_in ws)) → k ≡ low32_of (get_or ws 11 0) → l ≡ low32_of (get_or ws 35 0)
    → comes_to_compare n k l ≡ edge_of (cop0_in ws)
unfolding comes_to_compare edge_of
edge_is ws n k l en ek el =
    let same : low32_of (count_of (cop0_in ws)) ≡ count_of (cop0_in ws) = omega arith in
    rw (en, ek, el, same, get_or-take 32 ws 11 0 (omega arith))

abbrev told : Bool → Flag
told b = record { refused = 0; is = b }

-- an advance that is not refused, store by store
module _ (ws : List ℕ) (long : length ws ≡ 38) (n m t : ℕ) (small : n < 2 ^ 32) (et : t ≡ (get_or ws 32 0 + n) % 2 ^ 64) where
  abbrev c : Cop0
  c = cop0_in ws

  -- with the clock moved and Random stepped
  abbrev q : Cop0
  q = tick_random_by_of (with_now c t) m

  both : (answered (bit (edge_of q) ∷ []) ≡ advance_told c n m) × (raised_if (edge_of q) (asked q) ≡ advance_of c n m)
  unfolding polled_of
  both = advances c n m t q (polled_of q) small et refl refl

  flagged : (b : Bool) → edge_of q ≡ b → told b ≡ flag_of (advance_told c n m)
  flagged b e = rw (← both.0, e, bit_undone b)

  after : (b : Bool) → edge_of q ≡ b → raised_if b (asked q) ≡ advance_of c n m
  after b e = rw (← e) both.1

  module _ (ws₂ ws₃ : List ℕ) (e₂ : ws₂ ≡ put_in (set ws 32 t) (tick_random_by_of (cop0_in (set ws 32 t)) m)) (e₃ : ws₃ ≡ put_in ws₂ (asked (cop0_in ws₂))) where
    random : Holds ws ws₂ q
    random =
        held (record { meant = in_now ws t long; rest = rest_now ws t long }) (λ (d : Cop0). tick_random_by_of d m) ws₂ e₂
        (random_fits (now_fits (in_fits ws long) t) m)

    abbrev same_edge : (b : Bool) → b ≡ edge_of (cop0_in ws₂) → edge_of q ≡ b
    same_edge b e = sym (e ∙ ap edge_of random.meant)

    pub quiet : (b : Bool) → b ≡ edge_of (cop0_in ws₂) → b ≡ false
        → (told false ≡ flag_of (advance_told c n m)) × (ws₃ ≡ put_in ws (advance_of c n m))
    quiet b e f = (
      flagged false (same_edge b e ∙ f),
      onto random asked ws₃ e₃ ∙ ap (put_in ws) (after false (same_edge b e ∙ f)),
    )

    pub raised : (b : Bool) → b ≡ edge_of (cop0_in ws₂) → b ≡ true → (ws₄ : List ℕ) → ws₄ ≡ put_in ws₃ (set_ip_of (cop0_in ws₃) 7 true)
        → (told true ≡ flag_of (advance_told c n m)) × (ws₄ ≡ put_in ws (advance_of c n m))
    raised b e f ws₄ e₄ =
        let polled = held random asked ws₃ e₃ (asked_fits (random_fits (now_fits (in_fits ws long) t) m)) in (
          flagged true (same_edge b e ∙ f),
          onto polled (λ (d : Cop0). set_ip_of d 7 true) ws₄ e₄ ∙ ap (put_in ws) (after true (same_edge b e ∙ f)),
        )
