-- No second outcome fits the contract of any public operation: shown on the contracts as the checker reads them.
use Rattle.std.proofs.Common.{Result}
use mathlib.Core.Path.{◌≡◌, ap₂}
use mathlib.Core.Bool.{Bool}
use Prim.Native.Nat.{ℕ}
use Rattle.bits.proofs.Same.{same}
use Rattle.tlb.specs.declared.table.Tlb.{Tlb}
use Rattle.addr.specs.declared.access.Access.{Access}
use Rattle.addr.specs.declared.segments.Segment.{Segment}
use Rattle.addr.specs.declared.translate.Translation.{Translation}
use Rattle.addr.specs.declared.translate.Physical.{Physical}
use Rattle.addr.specs.declared.translate.TranslateError.{TranslateError}
use Rattle.addr.specs.declared.refusal.Refusal.{Refusal}
use Rattle.addr.proofs.Answers.{access_one, segment_one, translate_one}
use Rattle.addr.proofs.access.Access.kernel.Reads as kernel
use Rattle.addr.proofs.access.Access.from_status.Reads as from_status
use Rattle.addr.proofs.refusal.Refusal.number.Reads as refusal_number
use Rattle.addr.proofs.access.Access.segment.Reads as segment
use Rattle.addr.proofs.segments.within.Reads as within
use Rattle.addr.proofs.translate.translate_via.Reads as translate_via

abbrev made : Result Physical TranslateError → Tlb → Translation
made a t = record { answer = a; tlb = t }

pub kernel_unique : (a : Unit {0}) (r r' : Access) → kernel.Post tt a r a → kernel.Post tt a r' a → r ≡ r'
kernel_unique a r r' = same

pub from_status_unique : (a : ℕ × Unit {0}) (r r' : Result Access Refusal) → from_status.Post tt a r a
    → from_status.Post tt a r' a → r ≡ r'
from_status_unique a r r' p q = access_one r r' (same p q)

pub refusal_number_unique : (a : Refusal × Unit {0}) (r r' : ℕ) → refusal_number.Post tt a r a
    → refusal_number.Post tt a r' a → r ≡ r'
refusal_number_unique a r r' = same

pub segment_unique : (a : Access × (ℕ × Unit {0})) (r r' : Segment) → segment.Post tt a r a → segment.Post tt a r' a → r ≡ r'
segment_unique a r r' p q = segment_one r r' (same p q)

pub within_unique : (a : ℕ × (ℕ × (ℕ × Unit {0}))) (r r' : Bool) → within.Post tt a r a → within.Post tt a r' a → r ≡ r'
within_unique a r r' = same

pub translate_via_unique : (a : Tlb × (ℕ × (ℕ × (Bool × (Access × Unit {0}))))) (r r' : Translation)
    → translate_via.Post tt a r a → translate_via.Post tt a r' a → r ≡ r'
translate_via_unique a r r' p q =
    ap₂ made
    (translate_one r.answer r'.answer (same p.0 q.0))
    (same p.1 q.1)
