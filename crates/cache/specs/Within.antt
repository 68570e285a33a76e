-- What holds of a cache from when it was made: its parts have their lengths, and no tag word has a bit that means nothing.
use Rattle.std.specs.Prelude.{◌≡◌, true, List, [], ◌∷◌, ℕ, ◌^◌, ◌<◌, length}
use Rattle.tags.specs.Places.{word_at}
use Rattle.cache.specs.Both.{sized}
use Rattle.cache.specs.Step.{Cache, size_of, capacity_of, Op, new, hits, install, load_tag, store_tag, resident_addr, miss_plan, read, write, flush_index, create_dirty_exclusive, read_word, invalidate_index, hit_invalidate, flush_hit, Parts, Said}

abbrev pub Whole : Cache → Parts → Type 0
Whole c p = sized (capacity_of c) p.lines p.tags ≡ true

-- every word is tag, valid and dirty: bits 21..0
abbrev pub Low : List ℕ → Type 0
Low ws = (i : ℕ) → word_at ws i < 2 ^ 22

-- what no operation takes from parts: their lengths, and that words are low
pub record Keeps (p q : Parts) : Type 0 where
  pub lines : length q.lines ≡ length p.lines
  pub tags : length q.tags ≡ length p.tags
  pub low : Low p.tags → Low q.tags

-- what the types of operands say: an address has 32 bits, and a line its bytes
abbrev pub Typed : {c : Cache} → Op c → Type 0
Typed new = Unit {0}
Typed (hits a) = a < 2 ^ 32
Typed {c} (install a line) = (a < 2 ^ 32) × (length line ≡ size_of c)
Typed (load_tag a) = a < 2 ^ 32
Typed (store_tag a t) = a < 2 ^ 32
Typed (resident_addr i) = Unit {0}
Typed (miss_plan a) = a < 2 ^ 32
Typed (read a len) = a < 2 ^ 32
Typed (write a len v) = a < 2 ^ 32
Typed (flush_index a invalidate clean) = a < 2 ^ 32
Typed (create_dirty_exclusive a) = a < 2 ^ 32
Typed (read_word a) = a < 2 ^ 32
Typed (invalidate_index a) = a < 2 ^ 32
Typed (hit_invalidate a) = a < 2 ^ 32
Typed (flush_hit a) = a < 2 ^ 32

unfoldable pub AllTyped : {c : Cache} → List (Op c) → Type 0
AllTyped [] = Unit {0}
AllTyped (o ∷ os) = Typed o × AllTyped os

-- no answer is the refusal n
unfoldable pub Never : ℕ → List Said → Type 0
Never n [] = Unit {0}
Never n (a ∷ said) = (a.told.number ≡ n → ⊥) × Never n said
