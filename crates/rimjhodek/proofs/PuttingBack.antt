-- Registers that may have changed, put back into the words that they are from: the words are then the changed record's.
use Rattle.std.proofs.Common.{◌≡◌, ℕ, ◌<◌, Bool, true, false, cond, ◌||◌, eqb, List, [], ◌∷◌, length, get_or, take, set, sym, refl, ap, ◌∙◌, length-set, get_or-set_other, get_or-set_same, ext_get_or, eq-eqb, ne_eqb}
use native.Mathlib.Decide.{ℕ_discrete}
use Rattle.cop0.specs.declared.registers.Cop0.{Cop0}
use Rattle.cop0.specs.Registers.{among}
use Rattle.cop0.specs.Record.{with_regs}
use Rattle.cop0.specs.Only.{Only}
use Rattle.rimjhodek.specs.Registers.{cop0_in, put_in, putting_back}
use Rattle.rimjhodek.proofs.Meaning.{Rest, rest_none, rest_more, done, in_reg, rest_reg}

-- numbers of registers
abbrev pub Low : List ℕ → Type 0
Low [] = Unit {0}
Low (n ∷ ns) = (n < 32) × Low ns

module _ (from : List ℕ) where
  long : (ns ws : List ℕ) → length (putting_back ns from ws) ≡ length ws
  long [] ws = refl
  long (n ∷ ns) ws = long ns (set ws n (get_or from n 0)) ∙ length-set ws n (get_or from n 0)

  -- word k: the file's where it is among them
  at : (ns ws : List ℕ) (k : ℕ) → k < length ws → get_or (putting_back ns from ws) k 0 ≡ cond (among ns k) (get_or from k 0) (get_or ws k 0)
  unfolding among
  at [] ws k h = refl
  at (n ∷ ns) ws k h =
      at ns (set ws n (get_or from n 0)) k (rw (length-set ws n (get_or from n 0)) h) ∙ go (among ns k) (ℕ_discrete k n)
    where
      go : (b : Bool) → Dec (k ≡ n)
          → cond b (get_or from k 0) (get_or (set ws n (get_or from n 0)) k 0) ≡ cond (eqb k n || b) (get_or from k 0) (get_or ws k 0)
      go true (yes p) = rw (eq-eqb k n p)
      go false (yes p) = rw (eq-eqb k n p) (rw p (get_or-set_same ws n (get_or from n 0) 0 (rw p at h)))
      go true (no p) = rw (ne_eqb k n p)
      go false (no p) = rw (ne_eqb k n p) (get_or-set_other ws n k (get_or from n 0) 0 p)

  -- the record that the words then mean
  in_putting : (ns ws : List ℕ) → Low ns → cop0_in (putting_back ns from ws) ≡ with_regs (cop0_in ws) (putting_back ns from (take 32 ws))
  in_putting [] ws l = refl
  in_putting (n ∷ ns) ws l =
      in_putting ns (set ws n (get_or from n 0)) l.1
      ∙ ap (λ (c : Cop0). with_regs c (putting_back ns from c.regs)) (in_reg ws n (get_or from n 0) l.0)

  rest_putting : (ns ws : List ℕ) → Low ns → Rest ws (putting_back ns from ws)
  rest_putting [] ws l = rest_none ws
  rest_putting (n ∷ ns) ws l =
      rest_more (rest_reg ws n (get_or from n 0) l.0) (rest_putting ns (set ws n (get_or from n 0)) l.1)

-- a file in which nothing but some registers has changed
file_back : (ns : List ℕ) (c d : Cop0) → Only ns c d → putting_back ns d.regs c.regs ≡ d.regs
file_back ns c d o =
    ext_get_or 0 (putting_back ns d.regs c.regs) d.regs (long d.regs ns c.regs ∙ sym o.file)
    (λ k h. let q : k < length c.regs = rw (← long d.regs ns c.regs) h in
    at d.regs ns c.regs k q ∙ chosen k (among ns k) refl)
  where
    chosen : (k : ℕ) (b : Bool) → among ns k ≡ b → cond b (get_or d.regs k 0) (get_or c.regs k 0) ≡ get_or d.regs k 0
    chosen k true e = refl
    chosen k false e = sym (o.others k e)

-- and words, which then mean the changed record
means : (ns ws : List ℕ) (d : Cop0) → Low ns → Only ns (cop0_in ws) d → cop0_in (putting_back ns d.regs ws) ≡ d
means ns ws d low o =
    in_putting d.regs ns ws low ∙ ap (with_regs (cop0_in ws)) (file_back ns (cop0_in ws) d o) ∙ sym o.rest

module _ (ns ws : List ℕ) (d : Cop0) (l : length ws ≡ 38) (low : Low ns) (o : Only ns (cop0_in ws) d) where
  pub put_back : putting_back ns d.regs ws ≡ put_in ws d
  put_back =
      done ws (putting_back ns d.regs ws) d (long d.regs ns ws ∙ l) (rest_putting d.regs ns ws low) (means ns ws d low o)
