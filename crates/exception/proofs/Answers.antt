-- The numbers of the vectors are one-to-one: each has the vector that it came from.
use denote.Enum.Bare.{sameb}
use Rattle.exception.specs.contracts.vectors.VectorKind.{the_type}
use Rattle.std.proofs.Common.{◌≡◌, ℕ, cond, eqb, refl}
use Rattle.bits.proofs.Same.{one_to_one}
use Rattle.exception.specs.declared.vectors.VectorKind.{VectorKind}
use Rattle.exception.specs.declared.vectors.VectorKind.TheVariants.{General, TlbRefill, XtlbRefill, Reset}
use Rattle.exception.specs.Vectors.{kind_number, is_reset}

abbrev kind_at : ℕ → VectorKind
kind_at n = cond (eqb n 0) General (cond (eqb n 1) TlbRefill (cond (eqb n 2) XtlbRefill Reset))

undone : (k : VectorKind) → kind_at (kind_number k) ≡ k
undone General = refl
undone TlbRefill = refl
undone XtlbRefill = refl
undone Reset = refl

pub kind_one : (k k' : VectorKind) → kind_number k ≡ kind_number k' → k ≡ k'
kind_one = one_to_one kind_number kind_at undone

-- the code asks whether a kind is Reset by the derived equality
pub reset_tested : (k : VectorKind) → is_reset k ≡ sameb the_type k Reset
reset_tested General = refl
reset_tested TlbRefill = refl
reset_tested XtlbRefill = refl
reset_tested Reset = refl
