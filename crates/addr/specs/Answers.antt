-- The number and the values of each answer.
use Rattle.std.specs.Prelude.{[], ◌∷◌, ℕ, Result, Ok, Err}
use Rattle.bits.specs.Told.{Told, answered, refused}
use Rattle.bits.specs.Field.{bit}
use Rattle.tlb.specs.Entries.{fault_number}
use Rattle.addr.specs.declared.access.Mode.{Mode}
use Rattle.addr.specs.declared.access.Mode.TheVariants.{Kernel, Supervisor, User}
use Rattle.addr.specs.declared.access.Access.{Access}
use Rattle.addr.specs.declared.refusal.Refusal.{Refusal}
use Rattle.addr.specs.declared.refusal.Refusal.TheVariants.{NoMode}
use Rattle.addr.specs.declared.segments.Cached.{Cached}
use Rattle.addr.specs.declared.segments.Cached.TheVariants.{Yes, No}
use Rattle.addr.specs.declared.segments.Segment.{Segment}
use Rattle.addr.specs.declared.segments.Segment.TheVariants.{Direct, Mapped, Invalid}
use Rattle.addr.specs.declared.translate.TranslateError.{TranslateError}
use Rattle.addr.specs.declared.translate.TranslateError.TheVariants.{Address, Tlb}
use Rattle.addr.specs.declared.translate.Physical.{Physical}

-- the number of each mode: its KSU
abbrev pub mode_number : Mode → ℕ
mode_number Kernel = 0
mode_number Supervisor = 1
mode_number User = 2

-- the number of the refusal (document 01, "What is turned away")
abbrev pub refusal_number : Refusal → ℕ
refusal_number NoMode = 4

abbrev pub told_access : Result Access Refusal → Told
told_access (Ok a) = answered (mode_number a.mode ∷ bit a.wide ∷ bit a.erl ∷ [])
told_access (Err r) = refused (refusal_number r)

abbrev pub cached_number : Cached → ℕ
cached_number Yes = 1
cached_number No = 0

-- a direct address and its caching; one value alone where there is no address
abbrev pub told_segment : Segment → Told
told_segment (Direct p c) = answered (p ∷ cached_number c ∷ [])
told_segment Mapped = answered (0 ∷ [])
told_segment Invalid = answered (1 ∷ [])

-- the TLB's own number of its fault, and the next one for an address error
abbrev pub error_number : TranslateError → ℕ
error_number (Tlb f) = fault_number f
error_number Address = 3

-- the physical address, its caching and the entry's number; one value alone where there is no address
abbrev pub told_translate : Result Physical TranslateError → Told
told_translate (Ok p) = answered (p.addr ∷ cached_number p.cached ∷ p.entry ∷ [])
told_translate (Err e) = answered (error_number e ∷ [])
