-- Exceptions in words: each step goes on from the words that the one before made.
use Rattle.std.proofs.Common.{◌≡◌, ℕ, Bool, true, false, List, [], ◌∷◌, length, sym, ap, refl, ◌∙◌}
use Rattle.bits.specs.Told.{answered}
use Rattle.cop0.specs.declared.registers.Cop0.{Cop0}
use Rattle.cop0.specs.Registers.{Status}
use Rattle.cop0.specs.File.{read_of, set_hardware_of}
use Rattle.exception.specs.declared.kinds.Exception.{Exception}
use Rattle.exception.specs.declared.kinds.Exception.TheVariants as refill
use Rattle.exception.specs.declared.vectors.VectorKind.{VectorKind}
use Rattle.exception.specs.declared.vectors.VectorKind.TheVariants.{Reset}
use Rattle.exception.specs.Kinds.{writes_bad_vaddr_of, vector_kind_of}
use Rattle.exception.specs.Vectors.{kind_number, is_reset, vector_of}
use Rattle.exception.specs.Epilogue.{recorded, addressed, handling}
use Rattle.exception.specs.Taking.{dispatch_of}
use Rattle.exception.specs.Taking as taking
use Rattle.exception.proofs.Answers.{kind_one, reset_tested}
use Rattle.exception.specs.contracts.vectors.VectorKind.{the_type}
use denote.Enum.Bare.{sameb}
use Rattle.exception.proofs.Keeping.{recorded_by, addressed_by}
use Rattle.rimjhodek.specs.Registers.{cop0_in, put_in}
use Rattle.rimjhodek.specs.Exceptions.{dispatch_values, taken_of}
use Rattle.rimjhodek.proofs.Meaning.{rest_none, Fits, in_fits, Holds, onto, held}
use Rattle.rimjhodek.proofs.Fitting.{set_hardware_fits}

-- words ws' that hold a record which fits
pub record Made (ws ws' : List ℕ) (c : Cop0) : Type 0 where
  pub holds : Holds ws ws' c
  pub fits : Fits c

pub made_none : (ws : List ℕ) → length ws ≡ 38 → Made ws ws (cop0_in ws)
made_none ws long = record { holds = record { meant = refl; rest = rest_none ws }; fits = in_fits ws long }

-- and one operation more
made_by : {ws ws' : List ℕ} {c : Cop0} → Made ws ws' c → (op : Cop0 → Cop0) → Fits (op c) → (ws'' : List ℕ)
    → ws'' ≡ put_in ws' (op (cop0_in ws')) → Made ws ws'' (op c)
made_by m op f ws'' e = record { holds = held m.holds op ws'' e f; fits = f }

-- a register set by the hardware, and the last one
module _ {ws ws' : List ℕ} {c : Cop0} (m : Made ws ws' c) (n v : ℕ)
    (ws'' : List ℕ) (e : ws'' ≡ put_in ws' (set_hardware_of (cop0_in ws') n v)) where
  abbrev op : Cop0 → Cop0
  op d = set_hardware_of d n v

  pub made_set : Made ws ws'' (set_hardware_of c n v)
  made_set = made_by m op (set_hardware_fits c m.fits n v) ws'' e

  pub set_last : ws'' ≡ put_in ws (set_hardware_of c n v)
  set_last = onto m.holds op ws'' e

-- an exception that is no NMI
module _ (ws : List ℕ) (exc : Exception) (pc : ℕ) (slot : Bool) (bad : ℕ) (proper : is_reset (vector_kind_of exc) ≡ false) where
  abbrev c : Cop0
  c = cop0_in ws

  -- its vector, of the Status and the kind that the code has read
  pub told : (s : ℕ) (k : VectorKind) → s ≡ read_of c Status → kind_number k ≡ kind_number (vector_kind_of exc)
      → taken_of (answered (vector_of s k ∷ 2 ∷ [])) ≡ taken_of (answered (dispatch_values (dispatch_of c exc pc slot bad).dispatch))
  unfolding dispatch_of
  told s k es ek = rw (proper, es, kind_one k (vector_kind_of exc) ek)

  module _ (long : length ws ≡ 38) (ws₁ : List ℕ) (e₁ : ws₁ ≡ put_in ws (recorded c exc pc slot)) where
    caused : Made ws ws₁ (recorded c exc pc slot)
    caused =
        made_by (made_none ws long) (λ (d : Cop0). recorded d exc pc slot)
        (recorded_by Fits set_hardware_fits c (in_fits ws long) exc pc slot) ws₁ e₁

    pub faulted : writes_bad_vaddr_of exc ≡ true → (ws₂ ws₃ : List ℕ) → ws₂ ≡ put_in ws₁ (addressed (cop0_in ws₁) bad)
        → ws₃ ≡ put_in ws₂ (handling (cop0_in ws₂)) → ws₃ ≡ put_in ws (dispatch_of c exc pc slot bad).cop0
    unfolding dispatch_of taking.taken_of
    faulted has ws₂ ws₃ e₂ e₃ =
        let f = addressed_by Fits set_hardware_fits _ caused.fits bad in
        let m = made_by caused (λ (d : Cop0). addressed d bad) f ws₂ e₂ in
        rw (proper, has) (onto m.holds handling ws₃ e₃)

    pub unfaulted : writes_bad_vaddr_of exc ≡ false → (ws₂ : List ℕ) → ws₂ ≡ put_in ws₁ (handling (cop0_in ws₁))
        → ws₂ ≡ put_in ws (dispatch_of c exc pc slot bad).cop0
    unfolding dispatch_of taking.taken_of
    unfaulted has ws₂ e₂ = rw (proper, has) (onto caused.holds handling ws₂ e₂)

-- an NMI alone takes the vector of number 3
pub is_reset_lem : (n : ℕ) (k k' : VectorKind) → n ≡ kind_number k → kind_number k ≡ kind_number k' → n ≡ 3 → is_reset k' ≡ true
is_reset_lem n k k' en ek e = ap is_reset (kind_one k' Reset (sym ek ∙ sym en ∙ e))

-- the test of the code, by the derived equality
pub reset_asked : (k k' : VectorKind) (t b : Bool) → kind_number k ≡ kind_number k' → t ≡ sameb the_type k Reset → t ≡ b → is_reset k' ≡ b
reset_asked k k' t b ek et eb = ap is_reset (sym (kind_one k k' ek)) ∙ reset_tested k ∙ sym et ∙ eb

-- and a refill by its own, whatever it holds
pub refill_proper : (store wide : Bool) → is_reset (vector_kind_of (refill.TlbRefill store wide)) ≡ false
refill_proper store true = refl
refill_proper store false = refl
