-- Words and the record that they mean: each store of a word is one step of the record.
use Rattle.std.proofs.Common.{◌≡◌, ℕ, ◌+◌, ◌/◌, ◌%◌, ◌^◌, ◌<◌, List, [], ◌∷◌, ◌++◌, length, get_or, take, drop, set, sym, refl, ap, ◌∙◌, subst, arith, length-append, length-set, take-append-drop, drop_of_length-le, length-take-le, drop-cons, get_or-set_other, get_or-set_same, take_at, get_or-append-add}
use lib.Seq.{take-set-lt, take-set-le}
use Rattle.bits.specs.Field.{with_field_of}
use Rattle.bits.specs.Extension.{low32_of}
use Rattle.cop0.specs.declared.registers.Cop0.{Cop0}
use Rattle.cop0.specs.Record.{with_reg, with_now, with_latch, with_epoch, with_last_count}
use Rattle.rimjhodek.specs.Registers.{cop0_in, over, put_in}

-- a word is its low bits and the others
whole : (w : ℕ) → over 32 w (low32_of w) ≡ w
whole w = omega arith

whole_8 : (w : ℕ) → over 8 w (w % 2 ^ 8) ≡ w
whole_8 w = omega arith

-- the words of a record put back where it was read
pub home : (ws : List ℕ) → length ws ≡ 38 → put_in ws (cop0_in ws) ≡ ws
unfolding put_in
home ws long =
    rw (whole (get_or ws 33 0), whole (get_or ws 35 0), whole_8 (get_or ws 36 0))
    (ap (λ (l : List ℕ). take 32 ws ++ l) (sym rest) ∙ take-append-drop 32 ws)
  where
    rest : drop 32 ws ≡ get_or ws 32 0 ∷ get_or ws 33 0 ∷ get_or ws 34 0 ∷ get_or ws 35 0 ∷ get_or ws 36 0 ∷ get_or ws 37 0 ∷ []
    rest =
        rw (
          drop-cons ws 32 0 (omega arith),
          drop-cons ws 33 0 (omega arith),
          drop-cons ws 34 0 (omega arith),
          drop-cons ws 35 0 (omega arith),
          drop-cons ws 36 0 (omega arith),
          drop-cons ws 37 0 (omega arith),
          drop_of_length-le ws {i = 38} (omega arith),
        )

-- the bits that mean nothing are the same in both
pub record Rest (ws ws' : List ℕ) : Type 0 where
  pub value : get_or ws' 33 0 / 2 ^ 32 ≡ get_or ws 33 0 / 2 ^ 32
  pub last : get_or ws' 35 0 / 2 ^ 32 ≡ get_or ws 35 0 / 2 ^ 32
  pub ec : get_or ws' 36 0 / 2 ^ 8 ≡ get_or ws 36 0 / 2 ^ 8

pub rest_none : (ws : List ℕ) → Rest ws ws
rest_none ws = record { value = refl; last = refl; ec = refl }

pub rest_more : {ws ws' ws'' : List ℕ} → Rest ws ws' → Rest ws' ws'' → Rest ws ws''
rest_more r s = record { value = s.value ∙ r.value; last = s.last ∙ r.last; ec = s.ec ∙ r.ec }

-- so words that mean a record are that record put into the words before
pub done : (ws ws' : List ℕ) (c : Cop0) → length ws' ≡ 38 → Rest ws ws' → cop0_in ws' ≡ c → ws' ≡ put_in ws c
unfolding put_in
done ws ws' c long r e =
    sym (home ws' long) ∙ rw (← e, r.value, r.last, r.ec)

-- what is put into words does not depend on what they meant
pub again : {ws ws' : List ℕ} → Rest ws ws' → (c : Cop0) → put_in ws' c ≡ put_in ws c
unfolding put_in
again r c = rw (r.value, r.last, r.ec)

-- a store to a register
module _ (ws : List ℕ) (n x : ℕ) (h : n < 32) where
  pub in_reg : cop0_in (set ws n x) ≡ with_reg (cop0_in ws) n x
  in_reg =
      rw (
        take-set-lt 32 ws n x h,
        get_or-set_other ws n 32 x 0 (λ q. omega (arith, q)),
        get_or-set_other ws n 33 x 0 (λ q. omega (arith, q)),
        get_or-set_other ws n 34 x 0 (λ q. omega (arith, q)),
        get_or-set_other ws n 35 x 0 (λ q. omega (arith, q)),
        get_or-set_other ws n 36 x 0 (λ q. omega (arith, q)),
        get_or-set_other ws n 37 x 0 (λ q. omega (arith, q)),
      )

  pub rest_reg : Rest ws (set ws n x)
  rest_reg =
      record {
        value = rw (get_or-set_other ws n 33 x 0 (λ q. omega (arith, q)));
        last = rw (get_or-set_other ws n 35 x 0 (λ q. omega (arith, q)));
        ec = rw (get_or-set_other ws n 36 x 0 (λ q. omega (arith, q)));
      }

  -- the register's word is then all that differs
  pub stored : length ws ≡ 38 → set ws n x ≡ put_in ws (with_reg (cop0_in ws) n x)
  stored long = done ws _ _ (length-set ws n x ∙ long) rest_reg in_reg

-- to the clock's position
module _ (ws : List ℕ) (x : ℕ) (long : length ws ≡ 38) where
  pub in_now : cop0_in (set ws 32 x) ≡ with_now (cop0_in ws) x
  in_now =
      rw (
        take-set-le 32 ws 32 x (omega arith),
        get_or-set_same ws 32 x 0 (omega arith),
        get_or-set_other ws 32 33 x 0 (λ q. omega (arith, q)),
        get_or-set_other ws 32 34 x 0 (λ q. omega (arith, q)),
        get_or-set_other ws 32 35 x 0 (λ q. omega (arith, q)),
        get_or-set_other ws 32 36 x 0 (λ q. omega (arith, q)),
        get_or-set_other ws 32 37 x 0 (λ q. omega (arith, q)),
      )

  pub rest_now : Rest ws (set ws 32 x)
  rest_now =
      record {
        value = rw (get_or-set_other ws 32 33 x 0 (λ q. omega (arith, q)));
        last = rw (get_or-set_other ws 32 35 x 0 (λ q. omega (arith, q)));
        ec = rw (get_or-set_other ws 32 36 x 0 (λ q. omega (arith, q)));
      }

-- to the latch
module _ (ws : List ℕ) (x : ℕ) (long : length ws ≡ 38) where
  pub in_latch : cop0_in (set ws 37 x) ≡ with_latch (cop0_in ws) x
  in_latch =
      rw (
        take-set-le 32 ws 37 x (omega arith),
        get_or-set_other ws 37 32 x 0 (λ q. omega (arith, q)),
        get_or-set_other ws 37 33 x 0 (λ q. omega (arith, q)),
        get_or-set_other ws 37 34 x 0 (λ q. omega (arith, q)),
        get_or-set_other ws 37 35 x 0 (λ q. omega (arith, q)),
        get_or-set_other ws 37 36 x 0 (λ q. omega (arith, q)),
        get_or-set_same ws 37 x 0 (omega arith),
      )

  pub rest_latch : Rest ws (set ws 37 x)
  rest_latch =
      record {
        value = rw (get_or-set_other ws 37 33 x 0 (λ q. omega (arith, q)));
        last = rw (get_or-set_other ws 37 35 x 0 (λ q. omega (arith, q)));
        ec = rw (get_or-set_other ws 37 36 x 0 (λ q. omega (arith, q)));
      }

-- the low half of a word
pub with_low : (w x : ℕ) → with_field_of w 31 0 x ≡ over 32 w (low32_of x)
unfolding with_field_of
with_low w x = omega arith

low : (w x : ℕ) → low32_of (over 32 w (low32_of x)) ≡ low32_of x
low w x = omega arith

high : (w x : ℕ) → over 32 w (low32_of x) / 2 ^ 32 ≡ w / 2 ^ 32
high w x = omega arith

-- to the last-asked Count
module _ (ws : List ℕ) (x : ℕ) (long : length ws ≡ 38) where
  abbrev word : ℕ
  word = over 32 (get_or ws 35 0) (low32_of x)

  pub in_last : cop0_in (set ws 35 word) ≡ with_last_count (cop0_in ws) (low32_of x)
  in_last =
      rw (
        take-set-le 32 ws 35 word (omega arith),
        get_or-set_other ws 35 32 word 0 (λ q. omega (arith, q)),
        get_or-set_other ws 35 33 word 0 (λ q. omega (arith, q)),
        get_or-set_other ws 35 34 word 0 (λ q. omega (arith, q)),
        get_or-set_same ws 35 word 0 (omega arith),
        get_or-set_other ws 35 36 word 0 (λ q. omega (arith, q)),
        get_or-set_other ws 35 37 word 0 (λ q. omega (arith, q)),
        low (get_or ws 35 0) x,
      )

  pub rest_last : Rest ws (set ws 35 word)
  rest_last =
      record {
        value = rw (get_or-set_other ws 35 33 word 0 (λ q. omega (arith, q)));
        last = rw (get_or-set_same ws 35 word 0 (omega arith)) (high (get_or ws 35 0) x);
        ec = rw (get_or-set_other ws 35 36 word 0 (λ q. omega (arith, q)));
      }

-- to the epoch
module _ (ws : List ℕ) (x t : ℕ) (long : length ws ≡ 38) where
  abbrev first : ℕ
  first = over 32 (get_or ws 33 0) (low32_of x)

  abbrev half : List ℕ
  half = set ws 33 first

  pub in_epoch : cop0_in (set half 34 t) ≡ with_epoch (cop0_in ws) (low32_of x) t
  in_epoch =
      rw (
        take-set-le 32 half 34 t (omega arith),
        take-set-le 32 ws 33 first (omega arith),
        get_or-set_other half 34 32 t 0 (λ q. omega (arith, q)),
        get_or-set_other ws 33 32 first 0 (λ q. omega (arith, q)),
        get_or-set_other half 34 33 t 0 (λ q. omega (arith, q)),
        get_or-set_same ws 33 first 0 (omega arith),
        get_or-set_same half 34 t 0 (rw (length-set ws 33 first) (omega arith)),
        get_or-set_other half 34 35 t 0 (λ q. omega (arith, q)),
        get_or-set_other ws 33 35 first 0 (λ q. omega (arith, q)),
        get_or-set_other half 34 36 t 0 (λ q. omega (arith, q)),
        get_or-set_other ws 33 36 first 0 (λ q. omega (arith, q)),
        get_or-set_other half 34 37 t 0 (λ q. omega (arith, q)),
        get_or-set_other ws 33 37 first 0 (λ q. omega (arith, q)),
        low (get_or ws 33 0) x,
      )

  pub rest_epoch : Rest ws (set half 34 t)
  rest_epoch =
      record {
        value = rw (get_or-set_other half 34 33 t 0 (λ q. omega (arith, q)), get_or-set_same ws 33 first 0 (omega arith)) (high (get_or ws 33 0) x);
        last = rw (get_or-set_other half 34 35 t 0 (λ q. omega (arith, q)), get_or-set_other ws 33 35 first 0 (λ q. omega (arith, q)));
        ec = rw (get_or-set_other half 34 36 t 0 (λ q. omega (arith, q)), get_or-set_other ws 33 36 first 0 (λ q. omega (arith, q)));
      }

-- a record whose fields fit the bits that mean them
pub record Fits (c : Cop0) : Type 0 where
  pub file : length c.regs ≡ 32
  pub value : c.count_epoch_value < 2 ^ 32
  pub last : c.last_count < 2 ^ 32
  pub ec : c.ec < 2 ^ 8

pub in_fits : (ws : List ℕ) → length ws ≡ 38 → Fits (cop0_in ws)
in_fits ws long =
    record { file = length-take-le 32 ws (omega arith); value = omega arith; last = omega arith; ec = omega arith }

-- a word after the registers
past : (rs ws : List ℕ) (i : ℕ) → length rs ≡ 32 → get_or (rs ++ ws) (32 + i) 0 ≡ get_or ws i 0
past rs ws i h = ap (λ (k : ℕ). get_or (rs ++ ws) (k + i) 0) (sym h) ∙ get_or-append-add rs ws i 0

low_over : (w x : ℕ) → x < 2 ^ 32 → low32_of (over 32 w x) ≡ x
low_over w x h = omega arith

low_over_8 : (w x : ℕ) → x < 2 ^ 8 → over 8 w x % 2 ^ 8 ≡ x
low_over_8 w x h = omega arith

high_over : (w x : ℕ) → x < 2 ^ 32 → over 32 w x / 2 ^ 32 ≡ w / 2 ^ 32
high_over w x h = omega arith

high_over_8 : (w x : ℕ) → x < 2 ^ 8 → over 8 w x / 2 ^ 8 ≡ w / 2 ^ 8
high_over_8 w x h = omega arith

-- put into words, it is what they mean
module _ (ws : List ℕ) (c : Cop0) (f : Fits c) where
  abbrev after : List ℕ
  after =
      c.now
      ∷ over 32 (get_or ws 33 0) c.count_epoch_value
      ∷ c.count_epoch_tick
      ∷ over 32 (get_or ws 35 0) c.last_count
      ∷ over 8 (get_or ws 36 0) c.ec
      ∷ c.write_latch
      ∷ []

  pub in_put : cop0_in (put_in ws c) ≡ c
  unfolding put_in
  in_put =
      rw (
        take_at c.regs after 32 f.file,
        past c.regs after 0 f.file,
        past c.regs after 1 f.file,
        past c.regs after 2 f.file,
        past c.regs after 3 f.file,
        past c.regs after 4 f.file,
        past c.regs after 5 f.file,
        low_over (get_or ws 33 0) c.count_epoch_value f.value,
        low_over (get_or ws 35 0) c.last_count f.last,
        low_over_8 (get_or ws 36 0) c.ec f.ec,
      )

  pub rest_put : Rest ws (put_in ws c)
  unfolding put_in
  rest_put =
      record {
        value = rw (past c.regs after 1 f.file) (high_over (get_or ws 33 0) _ f.value);
        last = rw (past c.regs after 3 f.file) (high_over (get_or ws 35 0) _ f.last);
        ec = rw (past c.regs after 4 f.file) (high_over_8 (get_or ws 36 0) _ f.ec);
      }

  pub long_put : length (put_in ws c) ≡ 38
  unfolding put_in
  long_put = length-append c.regs after ∙ ap (λ (k : ℕ). k + 6) f.file

-- words ws' that mean a record, with the bits that mean nothing as they are in ws
pub record Holds (ws ws' : List ℕ) (c : Cop0) : Type 0 where
  pub meant : cop0_in ws' ≡ c
  pub rest : Rest ws ws'

-- and one operation more
module _ {ws ws' : List ℕ} {c : Cop0} (h : Holds ws ws' c) (op : Cop0 → Cop0) (ws'' : List ℕ) (e : ws'' ≡ put_in ws' (op (cop0_in ws'))) where
  pub onto : ws'' ≡ put_in ws (op c)
  onto = e ∙ ap (λ (d : Cop0). put_in ws' (op d)) h.meant ∙ again h.rest (op c)

  pub held : Fits (op c) → Holds ws ws'' (op c)
  held f =
      record {
        meant = ap (λ (l : List ℕ). cop0_in l) onto ∙ in_put ws (op c) f;
        rest = subst (Rest ws) (sym onto) (rest_put ws (op c) f);
      }
