-- A write to words, by the register that it goes to.
use Rattle.std.proofs.Common.{◌≡◌, ℕ, ◌%◌, ◌<◌, Bool, true, false, cond, ◌||◌, eqb, List, length, get_or, set, sym, refl, ap, ◌∙◌, arith, length-set, get_or-set_other, get_or-take, eq-eqb, ne_eqb}
use Rattle.bits.specs.Field.{field_of, with_field_of}
use Rattle.bits.specs.Mask.{merged}
use Rattle.bits.specs.Extension.{low32_of}
use Rattle.bits.proofs.Tables.{agree}
use Rattle.cop0.specs.declared.registers.Cop0.{Cop0}
use Rattle.cop0.specs.Registers.{Random, Wired, Count, Compare, among, write_mask}
use Rattle.cop0.specs.Record.{with_reg, with_epoch, with_last_count}
use Rattle.cop0.specs.Interrupt.{set_ip_of}
use Rattle.cop0.specs.Clock.{count_of, asked}
use Rattle.cop0.specs.File.{besides, write_at}
use Rattle.cop0.specs.Access.{dmtc0_of}
use Rattle.rimjhodek.specs.Registers.{cop0_in, put_in, is_watched}
use Rattle.rimjhodek.proofs.Meaning.{home, done, again, in_reg, rest_reg, in_latch, rest_latch, with_low, in_last, rest_last, in_epoch, rest_epoch}

pub watched_bits : (k : ℕ) → k < 32 → eqb (field_of 0xA40 k k) 1 ≡ is_watched k
unfolding is_watched among
watched_bits = agree 32 (λ k. eqb (field_of 0xA40 k k) 1) is_watched refl

which : (k : ℕ) → k < 32 → is_watched k ≡ (eqb k Count || eqb k Compare || eqb k Wired)
unfolding is_watched among
which = agree 32 is_watched (λ k. eqb k Count || eqb k Compare || eqb k Wired) refl

-- the rest are left alone
alone : (c : Cop0) (k v : ℕ) → k < 32 → is_watched k ≡ false → besides k v c ≡ c
unfolding besides
alone c k v h w =
    go (eqb k Count) (eqb k Compare) (eqb k Wired) (asked (with_epoch c (low32_of v) c.now)) (asked (set_ip_of c 7 false)) (with_reg c Random 31)
    (sym (which k h) ∙ w)
  where
    go : (a b d : Bool) (x y z : Cop0) → (a || b || d) ≡ false → cond a x (cond b y (cond d z c)) ≡ c
    go false false false x y z e = refl
    go false false true x y z e = ap (λ (q : Bool). cond q z c) e
    go false true d x y z e = ap (λ (q : Bool). cond q y c) e
    go true b d x y z e = ap (λ (q : Bool). cond q x c) e

module _ (ws : List ℕ) (long : length ws ≡ 38) where
  pub is_asked : (x : ℕ) → x ≡ count_of (cop0_in ws) → set ws 35 (with_field_of (get_or ws 35 0) 31 0 x) ≡ put_in ws (asked (cop0_in ws))
  unfolding asked
  is_asked x e =
      let l : low32_of x ≡ x = rw e (omega arith) in
      rw (with_low (get_or ws 35 0) x)
      (done ws _ _ (length-set ws 35 _ ∙ long) (rest_last ws x long) (in_last ws x long ∙ ap (with_last_count (cop0_in ws)) (l ∙ e)))

  module _ (k v : ℕ) where
    pub to_count : k ≡ Count → (ws' : List ℕ)
        → ws' ≡ set (set ws 33 (with_field_of (get_or ws 33 0) 31 0 v)) 34 (get_or (set ws 33 (with_field_of (get_or ws 33 0) 31 0 v)) 32 0)
        → put_in ws' (asked (cop0_in ws')) ≡ put_in ws (besides k v (cop0_in ws))
    unfolding besides
    to_count e ws' p =
        rw (p, eq-eqb k Count e, with_low (get_or ws 33 0) v, get_or-set_other ws 33 32 _ 0 (λ q. omega (arith, q)), in_epoch ws v (get_or ws 32 0) long)
        (again (rest_epoch ws v (get_or ws 32 0) long) _)

    pub to_compare : (k ≡ Count → ⊥) → k ≡ Compare → (ws' : List ℕ) → ws' ≡ set ws 13 (with_field_of (get_or ws 13 0) 15 15 0)
        → put_in ws' (asked (cop0_in ws')) ≡ put_in ws (besides k v (cop0_in ws))
    unfolding besides set_ip_of
    to_compare e₁ e₂ ws' p =
        rw (p, ne_eqb k Count e₁, eq-eqb k Compare e₂, in_reg ws 13 (with_field_of (get_or ws 13 0) 15 15 0) (omega arith), get_or-take 32 ws 13 0 (omega arith))
        (again (rest_reg ws 13 _ (omega arith)) _)

    pub to_wired : (k ≡ Count → ⊥) → (k ≡ Compare → ⊥) → k < 32 → is_watched k ≡ true → set ws 1 31 ≡ put_in ws (besides k v (cop0_in ws))
    unfolding besides
    to_wired e₁ e₂ h w =
        rw (ne_eqb k Count e₁, ne_eqb k Compare e₂, last)
        (done ws _ _ (length-set ws 1 31 ∙ long) (rest_reg ws 1 31 (omega arith)) (in_reg ws 1 31 (omega arith)))
      where
        last : eqb k Wired ≡ true
        last = sym (rw (which k h, ne_eqb k Count e₁, ne_eqb k Compare e₂)) ∙ w

    pub to_other : k < 32 → is_watched k ≡ false → ws ≡ put_in ws (besides k v (cop0_in ws))
    to_other h w = rw (alone (cop0_in ws) k v h w) (sym (home ws long))

-- the store, and then what it does besides
pub written : (ws : List ℕ) (k v : ℕ) → k < 32 → (ws' : List ℕ) → ws' ≡ set ws k (merged (write_mask k) v (get_or ws k 0))
    → put_in ws' (besides k v (cop0_in ws')) ≡ put_in ws (write_at (cop0_in ws) k v)
unfolding write_at
written ws k v h ws' e =
    rw (e, in_reg ws k (merged (write_mask k) v (get_or ws k 0)) h, get_or-take 32 ws k 0 h) (again (rest_reg ws k _ h) _)

-- the latch first
pub moved : (ws : List ℕ) → length ws ≡ 38 → (n v : ℕ) (ws' : List ℕ)
    → ws' ≡ set (set ws 37 v) (n % 32) (merged (write_mask (n % 32)) v (get_or (set ws 37 v) (n % 32) 0))
    → put_in ws' (besides (n % 32) v (cop0_in ws')) ≡ put_in ws (dmtc0_of (cop0_in ws) n v)
unfolding dmtc0_of
moved ws long n v ws' e =
    written (set ws 37 v) (n % 32) v (omega arith) ws' e ∙ rw (in_latch ws v long) (again (rest_latch ws v long) _)
