-- The lists of register numbers, as tests.
use Rattle.std.proofs.Common.{◌≡◌, ℕ, ◌<◌, not, eqb, refl}
use Rattle.bits.specs.Field.{field_of}
use Rattle.bits.proofs.Tables.{agree}
use Rattle.cop0.specs.Registers.{named, among, wide, unused}

-- the bits of `WIDE` are the wide registers
pub wide_bits : (k : ℕ) → k < 32 → eqb (field_of 0x4010_451C k k) 1 ≡ wide k
unfolding wide among
wide_bits = agree 32 (λ k. eqb (field_of 0x4010_451C k k) 1) wide refl

-- a register has a name, or is unused
pub named_or_unused : (k : ℕ) → k < 32 → among named k ≡ not (unused k)
unfolding unused among
named_or_unused = agree 32 (among named) (λ k. not (unused k)) refl
