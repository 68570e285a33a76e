-- What every operation of a cache keeps: the lengths of the parts, and tag words without a bit that means nothing. A refusal changes
-- nothing, and none is for a length where the lengths are right.
use mathlib.Core.Path.{◌≡◌, refl, sym, subst, ◌∙◌}
use mathlib.Core.Bool.{Bool, true, false, ◌&&◌, cond, false≢true}
use mathlib.Core.List.{List, [], ◌∷◌}
use Prim.Native.Nat.{ℕ, zero, suc, ◌+◌, ◌-◌, ◌*◌, ◌%◌, ◌^◌, ◌<◌, ◌≤◌}
use native.Mathlib.Omega.{arith}
use lib.Dec.{eqb, leb}
use lib.ListN.{length, set, replicate, length-set, length-replicate, length-drop}
use lib.Seq.{paste, length-paste}
use borrow.Author.Tests.{eqb-true, eqb-false}
use Rattle.bits.proofs.Choices.{either}
use Rattle.bits.specs.Told.{Told, refused}
use Rattle.bits.proofs.FieldLaws.{field_lt}
use Rattle.tags.specs.Words.{tag_of, word_tag, is_valid, word_of, hit_of, leaves_of, displaced_of, invalidated, flushed_word, stored_of}
use Rattle.tags.specs.Places.{tagged, index_of, start_of, place_of, word_for}
use Rattle.tags.proofs.WordLaws.{word_low, flushed_low, stored_low}
use Rattle.lines.specs.Access.{access_refusal}
use Rattle.lines.specs.Bytes.{eight, bytes_of}
use Rattle.lines.proofs.AccessLaws.{allowed}
use Rattle.cache.specs.Answers.{nothing}
use Rattle.cache.specs.Both.{sized, hits_told, load_told, resident_told, tags_told, store_tags, both_told, fresh_part, install_bytes, install_tags, evicted_if}
use Rattle.cache.specs.Data.{planned_of, plan_told, read_told, write_told, write_bytes, write_tags, flush_told, flush_tags, create_told, create_tags}
use Rattle.cache.specs.Instruction as instruction
use Rattle.cache.specs.Instruction.{word_told, invalidate_tags, hit_invalidate_tags}
use Rattle.cache.specs.Step.{Cache, dcache, icache, size_of, capacity_of, state_of, Op, new, hits, install, load_tag, store_tag, resident_addr, miss_plan, read, write, flush_index, create_dirty_exclusive, read_word, invalidate_index, hit_invalidate, flush_hit, Parts, lent, Outcome, outcome, step_of}
use Rattle.cache.specs.Within.{Whole, Low, Keeps, Typed}
use Rattle.cache.proofs.PartLaws.{both, lengths, line_inside}
use Rattle.cache.proofs.Telling.{access}

-- a word replaced by one that is low, and zeros
set_low : (ws : List ℕ) (i w : ℕ) → Low ws → w < 2 ^ 22 → Low (set ws i w)
set_low [] i w l h j = l j
set_low (x ∷ xs) zero w l h zero = h
set_low (x ∷ xs) zero w l h (suc j) = l (suc j)
set_low (x ∷ xs) (suc i) w l h zero = l zero
set_low (x ∷ xs) (suc i) w l h (suc j) = set_low xs i w (λ k. l (suc k)) h j

pub zeros_low : (n : ℕ) → Low (replicate n 0)
zeros_low zero i = omega arith
zeros_low (suc n) zero = omega arith
zeros_low (suc n) (suc i) = zeros_low n i

-- not refusal 1
abbrev NotOne : Told → Type 0
NotOne t = t.number ≡ 1 → ⊥

access_not_one : (a len : ℕ) → access_refusal a len ≡ 1 → ⊥
access_not_one a len = access (λ (n : ℕ). n ≡ 1 → ⊥) a len (eqb-false 0 1 refl) (eqb-false 2 1 refl) (eqb-false 3 1 refl)

evicted_zero : (b : Bool) (w start : ℕ) → (evicted_if b w start).number ≡ 0
evicted_zero true w start = refl
evicted_zero false w start = refl

pub keeps_all : (p : Parts) → Keeps p p
keeps_all p = record { lines = refl; tags = refl; low = λ k. k }

-- zeros
fresh_keeps : (p : Parts) → Keeps p (lent (replicate (length p.lines) 0) (replicate (length p.tags) 0))
fresh_keeps p =
    record {
      lines = length-replicate (length p.lines) 0;
      tags = length-replicate (length p.tags) 0;
      low = λ k. zeros_low (length p.tags);
    }

-- a word replaced
set_keeps : (p : Parts) (i w : ℕ) → (Low p.tags → w < 2 ^ 22) → Keeps p (lent p.lines (set p.tags i w))
set_keeps p i w h = record { lines = refl; tags = length-set p.tags i w; low = λ k. set_low p.tags i w k (h k) }

-- and bytes with it
paste_keeps : (p : Parts) (at : ℕ) (bs : List ℕ) (n i w : ℕ) → at + n ≤ length p.lines → n ≤ length bs → w < 2 ^ 22
    → Keeps p (lent (paste p.lines at bs n) (set p.tags i w))
paste_keeps p at bs n i w inside enough h =
    record {
      lines = length-paste p.lines at bs n inside enough;
      tags = length-set p.tags i w;
      low = λ k. set_low p.tags i w k h;
    }

-- a line of the instruction cache invalidated
invalid_keeps : (p : Parts) (a : ℕ) → Keeps p (lent p.lines (set p.tags (index_of 32 a) (invalidated (word_for 32 p.tags a))))
invalid_keeps p a =
    let w : ℕ = word_for 32 p.tags a in
    set_keeps p (index_of 32 a) (invalidated w) (λ k. word_low (word_tag w) false false (field_lt w 19 0))

-- an operation leaves the parts as they are, or is not refused and keeps that; T is what the types of its operands say
data Went (c : Cache) (T : Type 0) (p : Parts) (r : Outcome) : Type 0 where
  stood : r.parts ≡ p → (Whole c p → NotOne r.said.told) → Went c T p r
  changed : r.said.told.number ≡ 0 → (T → Keeps p r.parts) → Went c T p r

module _ (c : Cache) (p : Parts) where
  whole_lines : Whole c p → eqb (length p.lines) (capacity_of c) ≡ true
  unfolding sized
  whole_lines w = (both (eqb (length p.lines) (capacity_of c)) (tagged p.tags) w).0

  whole_tags : Whole c p → tagged p.tags ≡ true
  unfolding sized
  whole_tags w = (both (eqb (length p.lines) (capacity_of c)) (tagged p.tags) w).1

module _ (c : Cache) {T : Type 0} (p : Parts) where
  -- refused by a test, which whole parts pass, and else asks
  asks : (b : Bool) (t : Told) (l : List ℕ) → (Whole c p → b ≡ true) → NotOne t
      → Went c T p (outcome (cond b t (refused 1)) l p.lines p.tags)
  asks true t l passes n = stood refl (λ w. n)
  asks false t l passes n = stood refl (λ w. absurd (false≢true (passes w)))

  -- or changes tags
  retags : (b : Bool) (t : Told) (l ws : List ℕ) → (Whole c p → b ≡ true) → t.number ≡ 0 → (T → Keeps p (lent p.lines ws))
      → Went c T p (outcome (cond b t (refused 1)) l p.lines (cond b ws p.tags))
  retags true t l ws passes z k = changed z k
  retags false t l ws passes z k = stood refl (λ w. absurd (false≢true (passes w)))

  -- or changes both parts
  fills : (b : Bool) (ls ws : List ℕ) → (Whole c p → b ≡ true) → (b ≡ true → T → Keeps p (lent ls ws))
      → Went c T p (outcome (cond b nothing (refused 1)) [] (cond b ls p.lines) (cond b ws p.tags))
  fills true ls ws passes k = changed refl (k refl)
  fills false ls ws passes k = stood refl (λ w. absurd (false≢true (passes w)))

-- 512 lines
all_lines : (c : Cache) → 512 * size_of c ≡ capacity_of c
all_lines dcache = refl
all_lines icache = refl

-- a line filled
install_keeps : (c : Cache) (p : Parts) (a : ℕ) (line : List ℕ) → Whole c p → a < 2 ^ 32 → length line ≡ size_of c
    → Keeps p (lent (paste p.lines (start_of (size_of c) a) line (size_of c)) (set p.tags (index_of (size_of c) a) (word_of (tag_of a) true false)))
install_keeps c p a line w h e =
    paste_keeps p (start_of (size_of c) a) line (size_of c) (index_of (size_of c) a) (word_of (tag_of a) true false)
    (omega (arith, line_inside (size_of c) a, all_lines c, (lengths (capacity_of c) p.lines p.tags refl w).0)) (omega arith)
    (word_low (tag_of a) true false (omega arith))

-- operations of the data cache that change something
module _ (p : Parts) (a : ℕ) where
  abbrev w : ℕ
  w = word_for 16 p.tags a

  abbrev fit : Bool
  fit = sized 8192 p.lines p.tags

  flush_went : {T : Type 0} (invalidate clean : Bool) → Went dcache T p (step_of (flush_index a invalidate clean) p)
  unfolding flush_told flush_tags
  flush_went invalidate clean =
      retags dcache p fit _ _ _ (λ y. y) (evicted_zero (leaves_of w) w (start_of 16 a))
      (λ y. set_keeps p (index_of 16 a) (flushed_word w invalidate clean) (λ k. flushed_low w invalidate clean (k (index_of 16 a))))

  create_went : Went dcache (Typed (create_dirty_exclusive a)) p (step_of (create_dirty_exclusive a) p)
  unfolding create_told create_tags
  create_went =
      retags dcache p fit _ _ _ (λ y. y) (evicted_zero (displaced_of w a) w (start_of 16 a))
      (λ y. set_keeps p (index_of 16 a) (word_of (tag_of a) true true) (λ k. word_low (tag_of a) true true (omega arith)))

  -- a write has refusals of its own
  write_went : {T : Type 0} (len v : ℕ) → Went dcache T p (step_of (write a len v) p)
  unfolding write_told write_bytes write_tags
  write_went {T} len v = go fit (eqb (access_refusal a len) 0) refl refl
    where
      marked : ℕ
      marked = word_of (word_tag w) (is_valid w) true

      go : (f ok : Bool) → fit ≡ f → eqb (access_refusal a len) 0 ≡ ok
          → Went dcache T p
          (outcome (cond f (cond ok nothing (refused (access_refusal a len))) (refused 1)) []
          (cond (f && ok) (paste p.lines (place_of 16 a) (bytes_of len v) len) p.lines)
          (cond (f && ok) (set p.tags (index_of 16 a) marked) p.tags))
      go true true f ok =
          let e = allowed a len (eqb-true (access_refusal a len) 0 ok) in
          changed refl
          (λ y. paste_keeps p (place_of 16 a) (bytes_of len v) len (index_of 16 a) marked
          (omega (arith, (lengths 8192 p.lines p.tags refl f).0))
          (omega (arith, length-drop (8 - len) (eight v)))
          (word_low (word_tag w) (is_valid w) true (field_lt w 19 0)))
      go true false f ok = stood refl (λ y. access_not_one a len)
      go false ok f k = stood refl (λ y. absurd (false≢true (sym f ∙ y)))

-- the one list of operations
went : {c : Cache} (o : Op c) (p : Parts) → Went c (Typed o) p (step_of o p)
unfolding both_told fresh_part hits_told install_bytes install_tags load_told store_tags tags_told resident_told
    planned_of plan_told read_told word_told invalidate_tags hit_invalidate_tags instruction.flush_told
went {c} new p = fills c p (sized (capacity_of c) p.lines p.tags) _ _ (λ w. w) (λ w t. fresh_keeps p)
went {c} (hits a) p = asks c p (tagged p.tags) _ _ (whole_tags c p) (eqb-false 0 1 refl)
went {c} (install a line) p =
    fills c p (sized (capacity_of c) p.lines p.tags) _ _ (λ w. w) (λ w t. install_keeps c p a line w t.0 t.1)
went {c} (load_tag a) p = asks c p (tagged p.tags) _ _ (whole_tags c p) (eqb-false 0 1 refl)
went {c} (store_tag a t) p =
    retags c p (tagged p.tags) _ _ _ (whole_tags c p) refl
    (λ y. set_keeps p (index_of (size_of c) a) (stored_of (state_of c) t) (λ k. stored_low (state_of c) t))
went {c} (resident_addr i) p = asks c p (tagged p.tags) _ _ (whole_tags c p) (eqb-false 0 1 refl)
went (miss_plan a) p =
    let w : ℕ = word_for 16 p.tags a in
    asks dcache p (sized 8192 p.lines p.tags) _ _ (λ y. y)
    (either NotOne (hit_of w a) (eqb-false 0 1 refl) (either NotOne (leaves_of w) (eqb-false 0 1 refl) (eqb-false 0 1 refl)))
went (read a len) p =
    asks dcache p (eqb (length p.lines) 8192) _ _ (whole_lines dcache p)
    (either NotOne (eqb (access_refusal a len) 0) (eqb-false 0 1 refl) (access_not_one a len))
went (write a len v) p = write_went p a len v
went (flush_index a invalidate clean) p = flush_went p a invalidate clean
went (create_dirty_exclusive a) p = create_went p a
went (read_word a) p =
    asks icache p (eqb (length p.lines) 16384) _ _ (whole_lines icache p)
    (either NotOne (leb (a % 32) 28) (eqb-false 0 1 refl) (eqb-false 3 1 refl))
went (invalidate_index a) p =
    retags icache p (tagged p.tags) _ _ _ (whole_tags icache p) refl (λ y. invalid_keeps p a)
went (hit_invalidate a) p =
    retags icache p (tagged p.tags) _ _ _ (whole_tags icache p) refl
    (λ y. either (λ (ws : List ℕ). Keeps p (lent p.lines ws)) (hit_of (word_for 32 p.tags a) a) (invalid_keeps p a)
    (keeps_all p))
went (flush_hit a) p =
    let w : ℕ = word_for 32 p.tags a in
    asks icache p (sized 16384 p.lines p.tags) _ _ (λ y. y) (λ e. absurd (omega (arith, evicted_zero (hit_of w a) w (start_of 32 a))))

module _ {c : Cache} {T : Type 0} {p : Parts} {r : Outcome} where
  by_keeping : Went c T p r → T → Keeps p r.parts
  by_keeping (stood e n) t = subst (Keeps p) (sym e) (keeps_all p)
  by_keeping (changed z k) t = k t

  by_standing : Went c T p r → (r.said.told.number ≡ 0 → ⊥) → r.parts ≡ p
  by_standing (stood e n) refused = e
  by_standing (changed z k) refused = absurd (refused z)

  by_lengths : Went c T p r → Whole c p → NotOne r.said.told
  by_lengths (stood e n) w = n w
  by_lengths (changed z k) w = λ e. absurd (omega arith)

module _ {c : Cache} (o : Op c) (p : Parts) where
  pub step_keeps : Typed o → Keeps p (step_of o p).parts
  step_keeps = by_keeping (went o p)

  pub refused_stands : ((step_of o p).said.told.number ≡ 0 → ⊥) → (step_of o p).parts ≡ p
  refused_stands = by_standing (went o p)

  pub step_not_1 : Whole c p → (step_of o p).said.told.number ≡ 1 → ⊥
  step_not_1 = by_lengths (went o p)
