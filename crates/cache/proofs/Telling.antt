-- What holds of whatever can be told holds of what is told: by the tests of an access, and in a read and a write.
use mathlib.Core.Bool.{◌&&◌, cond}
use mathlib.Core.List.{List, [], ◌∷◌}
use Prim.Native.Nat.{ℕ, ◌+◌, ◌%◌}
use lib.Dec.{eqb, leb}
use lib.ListN.{length, take, drop}
use Rattle.bits.specs.Told.{Told, answered, refused}
use Rattle.bits.proofs.Choices.{either}
use Rattle.tags.specs.Places.{place_of}
use Rattle.lines.specs.Access.{access_refusal}
use Rattle.lines.specs.Bytes.{big_endian}
use Rattle.cache.specs.Answers.{nothing}
use Rattle.cache.specs.Data.{fits, read_told, write_told}

-- an access is allowed, or refused by 2 or by 3
pub access : (P : ℕ → Type 0) (a len : ℕ) → P 0 → P 2 → P 3 → P (access_refusal a len)
unfolding access_refusal
access P a len allowed short past = either P (leb 1 len && leb len 8) (either P (leb (a % 16 + len) 16) allowed past) short

module _ (P : Told → Type 0) (one : P (refused 1)) (two : P (refused 2)) (three : P (refused 3)) where
  pub read_told_lem : ((v : ℕ) → P (answered (v ∷ []))) → (ls : List ℕ) (a len : ℕ) → P (read_told ls a len)
  unfolding read_told
  read_told_lem number ls a len =
      let v : ℕ = big_endian (take len (drop (place_of 16 a) ls)) in
      either P (eqb (length ls) 8192)
      (access (λ (k : ℕ). P (cond (eqb k 0) (answered (v ∷ [])) (refused k))) a len (number v) two three)
      one

  pub write_told_lem : P nothing → (ls ws : List ℕ) (a len : ℕ) → P (write_told ls ws a len)
  unfolding write_told
  write_told_lem done ls ws a len =
      either P (fits ls ws) (access (λ (k : ℕ). P (cond (eqb k 0) nothing (refused k))) a len done two three) one
