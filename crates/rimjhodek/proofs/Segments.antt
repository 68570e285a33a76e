-- A segment by what it was told as; of an address of the low 2 GB; and of one of the kernel's KSEG0 or KSEG1, by the row that it meets.
use Rattle.std.proofs.Common.{◌≡◌, ℕ, ◌<◌, ◌≤◌, Bool, true, false, cond, not, ◌&&◌, ◌||◌, ltb, leb, List, [], ◌∷◌, sym, refl, ◌∙◌, arith, ltb-true, le-ltb, le-leb, leb-true}
use mathlib.Core.Bool.{and-false, false≢true}
use native.Mathlib.Decide.{dec_lt}
use borrow.Author.Tests.{lt-leb}
use Rattle.bits.specs.Field.{field_of}
use Rattle.bits.proofs.Tables.{and_left, and_right}
use Rattle.addr.specs.declared.access.Mode.{Mode}
use Rattle.addr.specs.declared.access.Mode.TheVariants.{Kernel, Supervisor, User}
use Rattle.addr.specs.declared.access.Access.{Access}
use Rattle.addr.specs.declared.segments.Cached.{Cached}
use Rattle.addr.specs.declared.segments.Cached.TheVariants.{Yes, No}
use Rattle.addr.specs.declared.segments.Segment.{Segment}
use Rattle.addr.specs.declared.segments.Segment.TheVariants.{Direct, Mapped}
use Rattle.addr.specs.Answers.{told_segment}
use Rattle.addr.specs.Segments.{direct, how, SegmentRow, row, inside, segment_in, rows_of, erl_row, table_of, segment_of}
use Rattle.addr.proofs.Answers.{segment_one}
use Rattle.rimjhodek.specs.Translation.{is_useg}

pub segment_told_lem : (g : Segment) (a : Access) (v : ℕ) → told_segment g ≡ told_segment (segment_of a v) → segment_of a v ≡ g
segment_told_lem g a v e = sym (segment_one g (segment_of a v) e)

within : (f l v : ℕ) → inside f l v ≡ true → (f ≤ v) × (v ≤ l)
unfolding inside
within f l v e =
    (leb-true f v (and_left (leb f v) (leb v l) e), leb-true v l (and_right (leb f v) (leb v l) e))

wider : (v : ℕ) → inside 0 0x7FFF_FFFF v ≡ true → inside 0 0xFF_FFFF_FFFF v ≡ true
unfolding inside
wider v e =
    rw (le-leb 0 v (omega arith), le-leb v 0xFF_FFFF_FFFF (omega (arith, (within 0 0x7FFF_FFFF v e).1)))

-- without ERL every table begins with a mapped row, which has the low 2 GB
pub useg_segment : (a : Access) (v : ℕ) → is_useg a.erl v ≡ true → segment_of a v ≡ Mapped
unfolding segment_of is_useg
useg_segment a v e = go a.erl e a.mode a.wide
  where
    go : (erl : Bool) → (not erl && inside 0 0x7FFF_FFFF v) ≡ true → (m : Mode) (wide : Bool)
        → segment_in (cond erl (erl_row ∷ rows_of m wide) (rows_of m wide)) v ≡ Mapped
    go true q m wide = absurd (false≢true q)
    go false q Kernel true = rw (wider v q)
    go false q Kernel false = rw q
    go false q Supervisor true = rw (wider v q)
    go false q Supervisor false = rw q
    go false q User true = rw (wider v q)
    go false q User false = rw q

-- a row that ends before the addresses from f to l, or begins after them
abbrev apart : ℕ → ℕ → SegmentRow → Bool
apart f l r = ltb r.last f || ltb l r.first

-- the rows that are not: those that the addresses meet
abbrev met : ℕ → ℕ → List SegmentRow → List SegmentRow
met f l [] = []
met f l (r ∷ rs) = cond (apart f l r) (met f l rs) (r ∷ met f l rs)

-- no other row says anything of them
module _ (f l v : ℕ) (hf : f ≤ v) (hl : v ≤ l) where
  outside : (r : SegmentRow) → apart f l r ≡ true → inside r.first r.last v ≡ false
  unfolding inside
  outside r e = go (dec_lt r.last v)
    where
      go : Dec (r.last < v) → (leb r.first v && leb v r.last) ≡ false
      go (yes p) = rw (lt-leb v r.last p) (and-false (leb r.first v))
      go (no p) =
          let after : ltb l r.first ≡ true = rw (le-ltb r.last f (omega (arith, p, hf))) at e in
          rw (lt-leb r.first v (omega (arith, hl, ltb-true l r.first after)))

  by_met : (rs : List SegmentRow) → segment_in rs v ≡ segment_in (met f l rs) v
  by_met [] = refl
  by_met (r ∷ rs) = go (apart f l r) refl (by_met rs)
    where
      go : (b : Bool) → apart f l r ≡ b → segment_in rs v ≡ segment_in (met f l rs) v
          → segment_in (r ∷ rs) v ≡ segment_in (cond b (met f l rs) (r ∷ met f l rs)) v
      go true e rest = rw (outside r e) rest
      go false e rest = rw rest

-- KSEG0 and KSEG1
abbrev pub kseg : Cached → SegmentRow
kseg Yes = row 0xFFFF_FFFF_8000_0000 0xFFFF_FFFF_9FFF_FFFF (direct 28 Yes)
kseg No = row 0xFFFF_FFFF_A000_0000 0xFFFF_FFFF_BFFF_FFFF (direct 28 No)

-- each meets one row of the kernel's, in either width, with ERL or without
one_met : (c : Cached) (wide erl : Bool)
    → met (kseg c).first (kseg c).last (cond erl (erl_row ∷ rows_of Kernel wide) (rows_of Kernel wide)) ≡ kseg c ∷ []
one_met Yes true true = refl
one_met Yes true false = refl
one_met Yes false true = refl
one_met Yes false false = refl
one_met No true true = refl
one_met No true false = refl
one_met No false true = refl
one_met No false false = refl

at_bits : (c : Cached) (v : ℕ) → how (kseg c).kind v ≡ Direct (field_of v 28 0) c
at_bits Yes v = refl
at_bits No v = refl

pub kseg_segment : (c : Cached) (a : Access) (v : ℕ) → a.mode ≡ Kernel → inside (kseg c).first (kseg c).last v ≡ true
    → segment_of a v ≡ Direct (field_of v 28 0) c
unfolding segment_of
kseg_segment c a v m e =
    let h = within (kseg c).first (kseg c).last v e in
    let met_is : met (kseg c).first (kseg c).last (table_of a) ≡ kseg c ∷ [] = rw m (one_met c a.wide a.erl) in
    by_met (kseg c).first (kseg c).last v h.0 h.1 (table_of a) ∙ rw (met_is, e) (at_bits c v)
