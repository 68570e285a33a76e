-- The access instructions MFC0, DMFC0, MTC0 and DMTC0, and the rs field that names them.
use Rattle.std.specs.Prelude.{ℕ, ◌%◌, cond, [], ◌∷◌, Result, Ok, Err}
use Rattle.bits.specs.Told.{Told, answered, refused}
use Rattle.bits.specs.Extension.{low32_of, sign_extended, zero_extended}
use Rattle.cop0.specs.declared.registers.Cop0.{Cop0}
use Rattle.cop0.specs.declared.access.Cop0Op.{Cop0Op}
use Rattle.cop0.specs.declared.access.Cop0Op.TheVariants.{Mfc0, Dmfc0, Mtc0, Dmtc0}
use Rattle.cop0.specs.declared.refusal.Refusal.{Refusal}
use Rattle.cop0.specs.Refusals.{refusal_number}
use Rattle.cop0.specs.Registers.{among, wide}
use Rattle.cop0.specs.Record.{with_latch}
use Rattle.cop0.specs.File.{read_of, write_of}

-- the low 32 bits as a signed number in 64
abbrev pub mfc0_of : Cop0 → ℕ → ℕ
mfc0_of c n = sign_extended (low32_of (read_of c n))

abbrev pub dmfc0_of : Cop0 → ℕ → ℕ
dmfc0_of c n = read_of c n

-- what MTC0 writes to register n: the low 32 bits, signed for a register of 64 bits
unfoldable pub moved32 : ℕ → ℕ → ℕ
moved32 n v = cond (wide (n % 32)) (sign_extended (low32_of v)) (zero_extended (low32_of v))

-- the latch takes the value, and the register takes it under its mask
unfoldable pub dmtc0_of : Cop0 → ℕ → ℕ → Cop0
dmtc0_of c n v = write_of (with_latch c v) n v

abbrev pub mtc0_of : Cop0 → ℕ → ℕ → Cop0
mtc0_of c n v = dmtc0_of c n (moved32 n v)

-- the number of each access form: its rs field
abbrev pub rs_of : Cop0Op → ℕ
rs_of Mfc0 = 0
rs_of Dmfc0 = 1
rs_of Mtc0 = 4
rs_of Dmtc0 = 5

-- the number and the values of each answer
abbrev pub told_from_rs : Result Cop0Op Refusal → Told
told_from_rs (Ok o) = answered (rs_of o ∷ [])
told_from_rs (Err r) = refused (refusal_number r)

-- refusal 6: `from_rs` of another number
unfoldable pub from_rs_of : ℕ → Told
from_rs_of rs = cond (among (0 ∷ 1 ∷ 4 ∷ 5 ∷ []) rs) (answered (rs ∷ [])) (refused 6)
