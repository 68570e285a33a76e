-- The values of a lookup's answer are one-to-one: each has the answer that it came from.
use Rattle.std.proofs.Common.{Result, Ok, Err}
use mathlib.Core.Path.{◌≡◌, refl, ap}
use mathlib.Core.Bool.{Bool, cond}
use mathlib.Core.List.{List, [], ◌∷◌}
use Prim.Native.Nat.{ℕ}
use lib.Dec.{eqb}
use lib.ListN.{get_or}
use Rattle.bits.specs.Told.{Told}
use Rattle.bits.proofs.Same.{one_to_one}
use Rattle.bits.proofs.FieldLaws.{bit_undone}
use Rattle.tlb.specs.declared.entries.Translated.{Translated}
use Rattle.tlb.specs.declared.entries.TlbFault.{TlbFault}
use Rattle.tlb.specs.declared.entries.TlbFault.TheVariants.{Refill, Invalid, Modified}
use Rattle.tlb.specs.Entries.{fault_number, told_lookup}

abbrev pub fault_of : ℕ → TlbFault
fault_of n = cond (eqb n 0) Refill (cond (eqb n 1) Invalid Modified)

pub fault_undone : (f : TlbFault) → fault_of (fault_number f) ≡ f
fault_undone Refill = refl
fault_undone Invalid = refl
fault_undone Modified = refl

abbrev pub translated : ℕ → Bool → ℕ → Translated
translated a u i = record { addr = a; uncached = u; entry = i }

abbrev pub lookup_at : List ℕ → Result Translated TlbFault
lookup_at [] = Err Refill
lookup_at (a ∷ []) = Err (fault_of a)
lookup_at (a ∷ u ∷ vs) = Ok (translated a (eqb u 1) (get_or vs 0 0))

pub lookup_undone : (a : Result Translated TlbFault) → lookup_at (told_lookup a).values ≡ a
lookup_undone (Ok t) = ap (λ (u : Bool). Ok (translated t.addr u t.entry)) (bit_undone t.uncached)
lookup_undone (Err f) = ap Err (fault_undone f)

pub lookup_one : (a a' : Result Translated TlbFault) → told_lookup a ≡ told_lookup a' → a ≡ a'
lookup_one = one_to_one told_lookup (λ (t : Told). lookup_at t.values) lookup_undone
