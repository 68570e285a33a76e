-- No second outcome fits the contract of any public function.
use Rattle.std.proofs.Common.{◌≡◌, ℕ}
use Rattle.bits.proofs.Same.{same}
use Rattle.bits.proofs.extension.low32.Reads as low32
use Rattle.bits.proofs.extension.sign_extend.Reads as sign_extend
use Rattle.bits.proofs.extension.zero_extend.Reads as zero_extend
use Rattle.bits.proofs.fields.field.Reads as field
use Rattle.bits.proofs.fields.with_field.Reads as with_field
use Rattle.bits.proofs.masks.merge.Reads as merge

pub low32_unique : (a : ℕ × Unit {0}) (r r' : ℕ) → low32.Post tt a r a → low32.Post tt a r' a → r ≡ r'
low32_unique a r r' = same

pub sign_extend_unique : (a : ℕ × Unit {0}) (r r' : ℕ) → sign_extend.Post tt a r a → sign_extend.Post tt a r' a → r ≡ r'
sign_extend_unique a r r' = same

pub zero_extend_unique : (a : ℕ × Unit {0}) (r r' : ℕ) → zero_extend.Post tt a r a → zero_extend.Post tt a r' a → r ≡ r'
zero_extend_unique a r r' = same

pub field_unique : (a : ℕ × (ℕ × (ℕ × Unit {0}))) (r r' : ℕ) → field.Post tt a r a → field.Post tt a r' a → r ≡ r'
field_unique a r r' = same

pub with_field_unique : (a : ℕ × (ℕ × (ℕ × (ℕ × Unit {0})))) (r r' : ℕ)
    → with_field.Post tt a r a → with_field.Post tt a r' a → r ≡ r'
with_field_unique a r r' = same

pub merge_unique : (a : ℕ × (ℕ × (ℕ × Unit {0}))) (r r' : ℕ) → merge.Post tt a r a → merge.Post tt a r' a → r ≡ r'
merge_unique a r r' = same
