-- A lent part cleared element by element.
use Rattle.std.proofs.Common.{◌≡◌, ℕ, ◌+◌, ◌<◌, List, length, get_or, set, replicate, sym, ap, ◌∙◌, append-nil, zero-add, add-one, arith, take_all}
use lib.ListN.{length-replicate, get_or-replicate}
use lib.Seq.{paste, paste-zero, paste-suc, drop-length}

-- the first i elements of l cleared
module _ (l : List ℕ) where
  abbrev pub cleared : ℕ → List ℕ
  cleared i = paste l 0 (replicate (length l) 0) i

  pub clear_none : l ≡ cleared 0
  clear_none = paste-zero l 0 (replicate (length l) 0)

  pub clear_more : (i : ℕ) → i < length l → set (cleared i) i 0 ≡ cleared (i + 1)
  clear_more i h =
      let zeros : List ℕ = replicate (length l) 0 in
      ap (set (cleared i) i) (sym (get_or-replicate (length l) i 0 0 h))
      ∙ ap (λ (k : ℕ). set (cleared i) k (get_or zeros i 0)) (sym (zero-add i))
      ∙ paste-suc l 0 zeros i 0 (omega arith) (omega (arith, length-replicate {A = ℕ} (length l) 0))
      ∙ ap cleared (sym (add-one i))

  pub clear_all : cleared (length l) ≡ replicate (length l) 0
  clear_all =
      rw (
        zero-add (length l),
        drop-length l,
        take_all {A = ℕ} (length l) (replicate (length l) 0) (omega (arith, length-replicate {A = ℕ} (length l) 0)),
      )
      (append-nil (replicate (length l) 0))
