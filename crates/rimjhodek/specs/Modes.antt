-- Modes, accesses and segments as they cross.
use Rattle.std.specs.Prelude.{ℕ, Bool, List, [], ◌∷◌, ◌==◌, slice_index_or}
use Rattle.bits.specs.Told.{Told}
use Rattle.addr.specs.declared.access.Mode.{Mode}
use Rattle.addr.specs.declared.access.Mode.TheVariants.{Kernel, Supervisor, User}
use Rattle.addr.specs.declared.access.Access.{Access}
use Rattle.addr.specs.declared.segments.Cached.{Cached}
use Rattle.addr.specs.declared.segments.Segment.{Segment}
use Rattle.addr.specs.declared.segments.Segment.TheVariants.{Direct, Mapped, Invalid}
use Rattle.addr.specs.Answers.{cached_number}
use Rattle.addr.specs.Segments.{segment_of}
use Rattle.rimjhodek.specs.declared.modes.By.{By}
use Rattle.rimjhodek.specs.declared.modes.Granted.{Granted}
use Rattle.rimjhodek.specs.declared.modes.Reached.{Reached}
use Rattle.rimjhodek.specs.Answers.{value, flag}
use Rattle.rimjhodek.specs.Numbered.{names, if_named}

-- a mode's number is its KSU
abbrev pub modes : List Mode
modes = Kernel ∷ Supervisor ∷ User ∷ []

abbrev pub is_mode : ℕ → Bool
is_mode n = names modes n

unfoldable pub mode_in : ℕ → Mode
mode_in n = slice_index_or modes n User

abbrev pub access_in : By → Access
access_in a = record { mode = mode_in a.mode; wide = a.wide; erl = a.erl }

-- the refusal's number, and the values of the access: mode, width, ERL
abbrev pub granted_of : Told → Granted
granted_of t = record { refused = t.number; mode = value t 0; wide = flag t 1; erl = flag t 2 }

abbrev pub is_cached : Cached → Bool
is_cached c = cached_number c == 1

-- 0 directly, with the caching and the address; 1 by the TLB; 2 not at all
abbrev pub segment_values : Segment → List ℕ
segment_values (Direct p c) = 0 ∷ cached_number c ∷ p ∷ []
segment_values Mapped = 1 ∷ []
segment_values Invalid = 2 ∷ []

abbrev pub reached_of : Told → Reached
reached_of t = record { refused = t.number; kind = value t 0; cached = flag t 1; addr = value t 2 }

unfoldable pub segment_told : By → ℕ → Told
segment_told a v = if_named (is_mode a.mode) (segment_values (segment_of (access_in a) v))
