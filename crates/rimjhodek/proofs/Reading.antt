-- A read, by whether the register is one of the few that read something else than their own bits.
use Rattle.std.proofs.Common.{◌≡◌, ℕ, ◌<◌, Bool, true, false, cond, not, ◌&&◌, ◌||◌, eqb, List, get_or, sym, refl, ap, ◌∙◌, get_or-take}
use Rattle.bits.specs.Field.{field_of}
use Rattle.bits.specs.Mask.{under}
use Rattle.bits.proofs.Tables.{agree}
use Rattle.cop0.specs.declared.registers.Cop0.{Cop0}
use Rattle.cop0.specs.Registers.{Count, Config, among, unused, arch_mask}
use Rattle.cop0.specs.Record.{reg}
use Rattle.cop0.specs.Clock.{count_of}
use Rattle.cop0.specs.File.{config_of, read_at}
use Rattle.rimjhodek.specs.Registers.{cop0_in, is_special, special_of}

-- a bit for each
pub special_bits : (k : ℕ) → k < 32 → eqb (field_of 0x83E1_0280 k k) 1 ≡ is_special k
unfolding is_special among
special_bits = agree 32 (λ k. eqb (field_of 0x83E1_0280 k k) 1) is_special refl

-- the unused ones are these without Count and Config
others : (k : ℕ) → k < 32 → unused k ≡ (is_special k && not (eqb k Count || eqb k Config))
unfolding is_special unused among
others = agree 32 unused (λ k. is_special k && not (eqb k Count || eqb k Config)) refl

all : (k : ℕ) → k < 32 → is_special k ≡ (unused k || eqb k Count || eqb k Config)
unfolding is_special unused among
all = agree 32 is_special (λ k. unused k || eqb k Count || eqb k Config) refl

pub read_special : (c : Cop0) (k : ℕ) → k < 32 → is_special k ≡ true → special_of c k ≡ read_at c k
unfolding special_of read_at
read_special c k h s = rw (others k h, s) (go (eqb k Count) (eqb k Config))
  where
    go : (a b : Bool)
        → cond a (count_of c) (cond b (config_of c) c.write_latch)
        ≡ cond (not (a || b)) c.write_latch (cond a (count_of c) (cond b (config_of c) (under (arch_mask k) (reg c k))))
    go true b = refl
    go false true = refl
    go false false = refl

-- and all others read their word
pub read_plain : (ws : List ℕ) (k : ℕ) → k < 32 → is_special k ≡ false → under (arch_mask k) (get_or ws k 0) ≡ read_at (cop0_in ws) k
unfolding read_at
read_plain ws k h s =
    rw (get_or-take 32 ws k 0 h)
    (go (unused k) (eqb k Count) (eqb k Config) (get_or ws 37 0) (count_of (cop0_in ws)) (config_of (cop0_in ws)) (under (arch_mask k) (get_or ws k 0)) (sym (all k h) ∙ s))
  where
    go : (a b d : Bool) (x y z u : ℕ) → (a || b || d) ≡ false → u ≡ cond a x (cond b y (cond d z u))
    go false false false x y z u e = refl
    go false false true x y z u e = ap (λ (q : Bool). cond q u z) e
    go false true d x y z u e = ap (λ (q : Bool). cond q u y) e
    go true b d x y z u e = ap (λ (q : Bool). cond q u x) e
