-- The fresh table by its entries.
use mathlib.Core.Path.{◌≡◌, refl, sym, ap, ◌∙◌}
use mathlib.Core.List.{List}
use Prim.Native.Nat.{ℕ, zero, suc, ◌+◌, ◌<◌}
use native.Mathlib.Nat.{add-zero, le_of_suc-le-suc, not-suc-le-zero}
use native.Mathlib.Omega.{arith}
use lib.ListN.{length, get_or}
use lib.Seq.{ext_get_or}
use Rattle.tlb.specs.declared.entries.Entry.{Entry}
use Rattle.tlb.specs.Table.{with_vpn2, fresh_entry, fresh_from}

long : (n i : ℕ) → length (fresh_from i n) ≡ n
unfolding fresh_from
long zero i = refl
long (suc n) i = ap suc (long n (suc i))

pub nth_fresh : (n i k : ℕ) → k < n → get_or (fresh_from i n) k (with_vpn2 0) ≡ fresh_entry (i + k)
unfolding fresh_from
nth_fresh zero i k h = absurd (not-suc-le-zero h)
nth_fresh (suc n) i zero h = ap fresh_entry (sym (add-zero i))
nth_fresh (suc n) i (suc k) h = nth_fresh n (suc i) k (le_of_suc-le-suc h) ∙ ap fresh_entry (omega arith)

-- 32 entries, each of them fresh
pub fresh : (l : List Entry) → length l ≡ 32 → ((k : ℕ) → k < 32 → get_or l k (with_vpn2 0) ≡ fresh_entry k) → l ≡ fresh_from 0 32
fresh l n h =
    ext_get_or (with_vpn2 0) l (fresh_from 0 32) (n ∙ sym (long 32 0))
    (λ k p. let q : k < 32 = omega arith in h k q ∙ sym (nth_fresh 32 0 k q ∙ ap fresh_entry (omega arith)))
