-- The caches' answers as they cross: the number of the refusal, or 0, and then the values, each 0 where there is none.
use Rattle.std.specs.Prelude.{ℕ, Bool, ◌==◌, slice_index}
use Rattle.bits.specs.Told.{Told}
use Rattle.rimjhodek.specs.declared.answers.Flag.{Flag}
use Rattle.rimjhodek.specs.declared.answers.Number.{Number}
use Rattle.rimjhodek.specs.declared.answers.Plan.{Plan}
use Rattle.rimjhodek.specs.declared.answers.Eviction.{Eviction}

abbrev pub value : Told → ℕ → ℕ
value t i = slice_index t.values i

abbrev pub flag : Told → ℕ → Bool
flag t i = value t i == 1

abbrev pub flag_of : Told → Flag
flag_of t = record { refused = t.number; is = flag t 0 }

abbrev pub number_of : Told → Number
number_of t = record { refused = t.number; value = value t 0 }

abbrev pub plan_of : Told → Plan
plan_of t = record { refused = t.number; plan = value t 0; addr = value t 1 }

abbrev pub eviction_of : Told → Eviction
eviction_of t = record { refused = t.number; evict = flag t 0; addr = value t 1 }
