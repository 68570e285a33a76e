-- The numbers and values of answers are one-to-one: each has the answer that it came from.
use Rattle.std.proofs.Common.{Result, Ok, Err}
use mathlib.Core.Path.{◌≡◌, refl, ap}
use mathlib.Core.Bool.{cond}
use mathlib.Core.List.{List, [], ◌∷◌}
use Prim.Native.Nat.{ℕ}
use lib.Dec.{eqb}
use lib.ListN.{get_or}
use Rattle.bits.specs.Told.{Told}
use Rattle.bits.proofs.Same.{one_to_one}
use Rattle.bits.proofs.FieldLaws.{bit_undone}
use Rattle.tlb.specs.declared.entries.TlbFault.TheVariants as fault
use Rattle.addr.specs.declared.access.Mode.{Mode}
use Rattle.addr.specs.declared.access.Mode.TheVariants.{Kernel, Supervisor, User}
use Rattle.addr.specs.declared.segments.Cached.{Cached}
use Rattle.addr.specs.declared.segments.Cached.TheVariants.{Yes, No}
use Rattle.addr.specs.declared.segments.Segment.{Segment}
use Rattle.addr.specs.declared.segments.Segment.TheVariants.{Direct, Mapped, Invalid}
use Rattle.addr.specs.declared.translate.TranslateError.{TranslateError}
use Rattle.addr.specs.declared.translate.TranslateError.TheVariants.{Address, Tlb}
use Rattle.addr.specs.declared.translate.Physical.{Physical}
use Rattle.addr.specs.declared.refusal.Refusal.{Refusal}
use Rattle.addr.specs.declared.refusal.Refusal.TheVariants.{NoMode}
use Rattle.addr.specs.declared.access.Access.{Access}
use Rattle.addr.specs.Answers.{mode_number, cached_number, error_number, told_access, told_segment, told_translate}
use Rattle.tlb.proofs.Answers.{fault_of}

abbrev pub mode_at : ℕ → Mode
mode_at n = cond (eqb n 0) Kernel (cond (eqb n 1) Supervisor User)

pub mode_undone : (m : Mode) → mode_at (mode_number m) ≡ m
mode_undone Kernel = refl
mode_undone Supervisor = refl
mode_undone User = refl

abbrev access_at : ℕ → List ℕ → Result Access Refusal
access_at n [] = Err NoMode
access_at n (m ∷ vs) = Ok (record { mode = mode_at m; wide = eqb (get_or vs 0 0) 1; erl = eqb (get_or vs 1 0) 1 })

access_undone : (a : Result Access Refusal) → access_at (told_access a).number (told_access a).values ≡ a
access_undone (Ok a) = rw (mode_undone a.mode, bit_undone a.wide, bit_undone a.erl)
access_undone (Err NoMode) = refl

pub access_one : (a a' : Result Access Refusal) → told_access a ≡ told_access a' → a ≡ a'
access_one = one_to_one told_access (λ (t : Told). access_at t.number t.values) access_undone

abbrev pub cached_at : ℕ → Cached
cached_at n = cond (eqb n 1) Yes No

cached_undone : (c : Cached) → cached_at (cached_number c) ≡ c
cached_undone Yes = refl
cached_undone No = refl

abbrev segment_at : List ℕ → Segment
segment_at [] = Invalid
segment_at (n ∷ []) = cond (eqb n 0) Mapped Invalid
segment_at (p ∷ c ∷ vs) = Direct p (cached_at c)

segment_undone : (g : Segment) → segment_at (told_segment g).values ≡ g
segment_undone (Direct p c) = ap (Direct p) (cached_undone c)
segment_undone Mapped = refl
segment_undone Invalid = refl

pub segment_one : (g g' : Segment) → told_segment g ≡ told_segment g' → g ≡ g'
segment_one = one_to_one told_segment (λ (t : Told). segment_at t.values) segment_undone

abbrev pub error_at : ℕ → TranslateError
error_at n = cond (eqb n 3) Address (Tlb (fault_of n))

error_undone : (e : TranslateError) → error_at (error_number e) ≡ e
error_undone Address = refl
error_undone (Tlb fault.Refill) = refl
error_undone (Tlb fault.Invalid) = refl
error_undone (Tlb fault.Modified) = refl

abbrev pub translate_at : List ℕ → Result Physical TranslateError
translate_at [] = Err Address
translate_at (n ∷ []) = Err (error_at n)
translate_at (p ∷ c ∷ vs) = Ok (record { addr = p; cached = cached_at c; entry = get_or vs 0 0 })

pub translate_undone : (a : Result Physical TranslateError) → translate_at (told_translate a).values ≡ a
translate_undone (Ok p) = ap (λ (c : Cached). Ok (record { addr = p.addr; cached = c; entry = p.entry })) (cached_undone p.cached)
translate_undone (Err e) = ap Err (error_undone e)

pub translate_one : (a a' : Result Physical TranslateError) → told_translate a ≡ told_translate a' → a ≡ a'
translate_one = one_to_one told_translate (λ (t : Told). translate_at t.values) translate_undone
