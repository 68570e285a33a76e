-- The numbers and values of answers are one-to-one: each has the answer that it came from.
use Rattle.std.proofs.Common.{◌≡◌, ℕ, ◌^◌, Bool, true, false, cond, eqb, ltb, Result, Ok, Err, List, [], ◌∷◌, sym, refl, ap, ◌∙◌}
use Rattle.bits.specs.Field.{bit}
use Rattle.bits.specs.Told.{Told, answered, refused}
use Rattle.bits.proofs.Same.{one_to_one}
use Rattle.cop0.specs.declared.access.Cop0Op.{Cop0Op}
use Rattle.cop0.specs.declared.access.Cop0Op.TheVariants.{Mfc0, Dmfc0, Mtc0, Dmtc0}
use Rattle.cop0.specs.declared.refusal.Refusal.{Refusal}
use Rattle.cop0.specs.declared.refusal.Refusal.TheVariants.{Counts, Form}
use Rattle.cop0.specs.Refusals.{refusal_number}
use Rattle.cop0.specs.declared.registers.Cop0.{Cop0}
use Rattle.cop0.specs.Access.{rs_of, told_from_rs}
use Rattle.cop0.specs.Clock.{edge_of}
use Rattle.cop0.specs.Advance.{told_advance, moved, advance_told, code_of, advance_code}

abbrev form_of : ℕ → Cop0Op
form_of rs = cond (eqb rs 0) Mfc0 (cond (eqb rs 1) Dmfc0 (cond (eqb rs 4) Mtc0 Dmtc0))

form_rs : (o : Cop0Op) → form_of (rs_of o) ≡ o
form_rs Mfc0 = refl
form_rs Dmfc0 = refl
form_rs Mtc0 = refl
form_rs Dmtc0 = refl

abbrev refusal_of : ℕ → Refusal
refusal_of n = cond (eqb n 5) Counts Form

refusal_undone : (r : Refusal) → refusal_of (refusal_number r) ≡ r
refusal_undone Counts = refl
refusal_undone Form = refl

abbrev from_rs_at : ℕ → List ℕ → Result Cop0Op Refusal
from_rs_at n [] = Err (refusal_of n)
from_rs_at n (v ∷ vs) = Ok (form_of v)

from_rs_undone : (a : Result Cop0Op Refusal) → from_rs_at (told_from_rs a).number (told_from_rs a).values ≡ a
from_rs_undone (Ok o) = ap Ok (form_rs o)
from_rs_undone (Err r) = ap Err (refusal_undone r)

pub from_rs_one : (a a' : Result Cop0Op Refusal) → told_from_rs a ≡ told_from_rs a' → a ≡ a'
from_rs_one = one_to_one told_from_rs (λ (t : Told). from_rs_at t.number t.values) from_rs_undone

abbrev pub advance_at : ℕ → List ℕ → Result Bool Refusal
advance_at n [] = Err (refusal_of n)
advance_at n (v ∷ vs) = Ok (eqb v 1)

pub advance_undone : (a : Result Bool Refusal) → advance_at (told_advance a).number (told_advance a).values ≡ a
advance_undone (Ok true) = refl
advance_undone (Ok false) = refl
advance_undone (Err r) = ap Err (refusal_undone r)

pub advance_one : (a a' : Result Bool Refusal) → told_advance a ≡ told_advance a' → a ≡ a'
advance_one = one_to_one told_advance (λ (t : Told). advance_at t.number t.values) advance_undone

-- what is told as the number n: an edge or none, or the refusal
abbrev told_at : ℕ → Told
told_at n = cond (ltb n 2) (answered (n ∷ [])) (refused n)

code_undone : (fits edge : Bool) → let t = cond fits (answered (bit edge ∷ [])) (refused 5) in told_at (code_of t) ≡ t
code_undone true true = refl
code_undone true false = refl
code_undone false edge = refl

-- 0, 1 and 5: an advance is known by one number
pub advance_code_one : (c c' : Cop0) (n n' m m' : ℕ) → advance_code c n m ≡ advance_code c' n' m'
    → advance_told c n m ≡ advance_told c' n' m'
unfolding advance_told
advance_code_one c c' n n' m m' e =
    sym (code_undone (ltb n (2 ^ 32)) (edge_of (moved c n m))) ∙ ap told_at e
    ∙ code_undone (ltb n' (2 ^ 32)) (edge_of (moved c' n' m'))
