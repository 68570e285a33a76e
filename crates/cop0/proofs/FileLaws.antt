-- A write, by the register it goes to.
use Rattle.std.proofs.Common.{◌≡◌, ℕ, false, eq-eqb, ne_eqb}
use Rattle.bits.specs.Mask.{merged}
use Rattle.bits.specs.Extension.{low32_of}
use Rattle.cop0.specs.declared.registers.Cop0.{Cop0}
use Rattle.cop0.specs.Registers.{Random, Wired, Count, Compare, write_mask}
use Rattle.cop0.specs.Record.{reg, with_reg, with_epoch}
use Rattle.cop0.specs.Interrupt.{set_ip_of}
use Rattle.cop0.specs.Clock.{asked}
use Rattle.cop0.specs.File.{besides, write_at}

-- w is the record with the bits under the mask replaced, as the code has made it
module _ (c w : Cop0) (k v x m y : ℕ) (em : m ≡ write_mask k) (ey : y ≡ reg c k) (ex : x ≡ merged m v y) (ew : w ≡ with_reg c k x) where
  stored : w ≡ with_reg c k (merged (write_mask k) v (reg c k))
  stored = rw (← em, ← ey, ← ex) ew

  pub to_count : (l : ℕ) → l ≡ low32_of v → k ≡ Count → asked (with_epoch w l w.now) ≡ write_at c k v
  unfolding write_at besides
  to_count l el e = rw (stored, el, eq-eqb k Count e)

  pub to_compare : (k ≡ Count → ⊥) → k ≡ Compare → asked (set_ip_of w 7 false) ≡ write_at c k v
  unfolding write_at besides
  to_compare e₁ e₂ = rw (stored, ne_eqb k Count e₁, eq-eqb k Compare e₂)

  pub to_wired : (k ≡ Count → ⊥) → (k ≡ Compare → ⊥) → k ≡ Wired → with_reg w Random 31 ≡ write_at c k v
  unfolding write_at besides
  to_wired e₁ e₂ e₃ = rw (stored, ne_eqb k Count e₁, ne_eqb k Compare e₂, eq-eqb k Wired e₃)

  pub to_other : (k ≡ Count → ⊥) → (k ≡ Compare → ⊥) → (k ≡ Wired → ⊥) → w ≡ write_at c k v
  unfolding write_at besides
  to_other e₁ e₂ e₃ = rw (stored, ne_eqb k Count e₁, ne_eqb k Compare e₂, ne_eqb k Wired e₃)
