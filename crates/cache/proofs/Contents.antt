-- What the caches hold after an operation: what was installed is there and hits, a write changes exactly its bytes, and a stored tag
-- loads back. Reads do not ask for a hit: their definitions, and their functions, take no tags.
use mathlib.Core.Path.{◌≡◌, refl, ap, sym, ◌∙◌}
use mathlib.Core.Bool.{Bool, true, false, cond}
use mathlib.Core.List.{List, [], ◌∷◌, ◌++◌, append_assoc}
use Prim.Native.Nat.{ℕ, ◌+◌, ◌-◌, ◌*◌, ◌%◌, ◌^◌, ◌<◌, ◌≤◌}
use native.Mathlib.Omega.{arith}
use lib.Dec.{eqb}
use lib.ListN.{length, get_or, set, take, drop, length-set, length-drop}
use lib.Seq.{length-take-le, paste, length-paste, take_all, take-append-le, drop-append-le, drop-drop, take_at, drop_at, drop-paste, get_or-set_same, set-get_or}
use borrow.Author.Tests.{eq-eqb, eqb-true}
use Rattle.bits.specs.Field.{field_of}
use Rattle.bits.specs.Told.{answered}
use Rattle.tags.specs.Words.{tag_of, word_of, stored_of}
use Rattle.tags.specs.Places.{index_of, start_of, place_of}
use Rattle.lines.specs.Access.{access_refusal}
use Rattle.lines.specs.Bytes.{big_endian, eight, bytes_of}
use Rattle.cache.specs.Both.{sized, hits_told, load_told, store_tags, install_bytes, install_tags}
use Rattle.cache.specs.Data.{fits, read_told, writes, write_bytes, flush_tags}
use Rattle.lines.proofs.AccessLaws.{allowed}
use Rattle.tags.proofs.WordLaws.{hit_back, tag_lo_back}
use Rattle.cache.proofs.PartLaws.{both, lengths}

-- n elements copied to a place are there
pub copied_back : (d s : List ℕ) (at n : ℕ) → at ≤ length d → length s ≡ n → take n (drop at (paste d at s n)) ≡ s
copied_back d s at n h e =
    ap (λ (l : List ℕ). take n (drop at l)) (append_assoc (take at d) (take n s) (drop (at + n) d))
    ∙ ap (take n) (drop_at (take at d) (take n s ++ drop (at + n) d) at (length-take-le at d h))
    ∙ take_at (take n s) (drop (at + n) d) n (length-take-le n s (omega arith))
    ∙ take_all n s (omega arith)

-- and any part of them is
pub part_back : (d s : List ℕ) (at n o len : ℕ) → at ≤ length d → length s ≡ n → o + len ≤ n
    → take len (drop (at + o) (paste d at s n)) ≡ take len (drop o s)
part_back d s at n o len h e inside =
    let rest : List ℕ = drop (at + n) d in
    let all : take n s ≡ s = take_all n s (omega arith) in
    ap (λ (l : List ℕ). take len (drop (at + o) l)) (append_assoc (take at d) (take n s) rest)
    ∙ ap (take len) (sym (drop-drop o at (take at d ++ (take n s ++ rest))))
    ∙ ap (λ (l : List ℕ). take len (drop o l)) (drop_at (take at d) (take n s ++ rest) at (length-take-le at d h))
    ∙ ap (λ (l : List ℕ). take len (drop o (l ++ rest))) all
    ∙ ap (take len) (drop-append-le o s rest (omega arith))
    ∙ take-append-le len (drop o s) rest (omega (arith, length-drop o s))

-- a line that is installed, over the size of a line: it hits, and holds the bytes
module _ (size bytes : ℕ) (ls ws : List ℕ) (a : ℕ) (fit : sized bytes ls ws ≡ true) where
  pub installed_hits : a < 2 ^ 32 → hits_told size (install_tags size bytes ls ws a) a ≡ answered (1 ∷ [])
  unfolding hits_told install_tags
  installed_hits h =
      let w : ℕ = word_of (tag_of a) true false in
      let long : length ws ≡ 512 = (lengths bytes ls ws refl fit).1 in
      rw (
        fit,
        length-set ws (index_of size a) w,
        eq-eqb (length ws) 512 long,
        get_or-set_same ws (index_of size a) w 0 (omega arith),
        hit_back a false h,
      )

  pub installed_bytes : (line : List ℕ) → start_of size a ≤ bytes → length line ≡ size
      → take size (drop (start_of size a) (install_bytes size bytes ls ws a line)) ≡ line
  unfolding install_bytes
  installed_bytes line inside e =
      rw fit (copied_back ls line (start_of size a) size (omega (arith, (lengths bytes ls ws refl fit).0)) e)

-- in the data cache, and in the instruction cache
pub data_installed : (ls ws : List ℕ) (a : ℕ) (line : List ℕ) → sized 8192 ls ws ≡ true → length line ≡ 16
    → take 16 (drop (start_of 16 a) (install_bytes 16 8192 ls ws a line)) ≡ line
data_installed ls ws a line fit = installed_bytes 16 8192 ls ws a fit line (omega arith)

pub instruction_installed : (ls ws : List ℕ) (a : ℕ) (line : List ℕ) → sized 16384 ls ws ≡ true → length line ≡ 32
    → take 32 (drop (start_of 32 a) (install_bytes 32 16384 ls ws a line)) ≡ line
instruction_installed ls ws a line fit = installed_bytes 32 16384 ls ws a fit line (omega arith)

-- an access to the line reads what was installed, at every offset and length that it may have
pub installed_reads : (ls ws : List ℕ) (a b len : ℕ) (line : List ℕ) → sized 8192 ls ws ≡ true → length line ≡ 16
    → index_of 16 b ≡ index_of 16 a → access_refusal b len ≡ 0
    → read_told (install_bytes 16 8192 ls ws a line) b len ≡ answered (big_endian (take len (drop (b % 16) line)) ∷ [])
unfolding read_told install_bytes
installed_reads ls ws a b len line fit e same k =
    let long : length ls ≡ 8192 = (lengths 8192 ls ws refl fit).0 in
    let inside : b % 16 + len ≤ 16 = (allowed b len k).1 in
    rw (
      fit,
      length-paste ls (start_of 16 a) line 16 (omega arith) (omega arith),
      eq-eqb (length ls) 8192 long,
      k,
      same,
      part_back ls line (start_of 16 a) 16 (b % 16) len (omega arith) e inside,
    )

-- a stored tag loads back, with the state of a valid line or 0
pub stored_loads : (size state : ℕ) (ws : List ℕ) (a t : ℕ) → length ws ≡ 512
    → load_told size state (store_tags size state ws a t) a
    ≡ answered ((field_of t 27 8 * 2 ^ 8 + cond (eqb (field_of t 7 6) state) state 0 * 2 ^ 6) ∷ [])
unfolding load_told store_tags
stored_loads size state ws a t long =
    rw (
      eq-eqb (length ws) 512 long,
      length-set ws (index_of size a) (stored_of state t),
      eq-eqb (length ws) 512 long,
      get_or-set_same ws (index_of size a) (stored_of state t) 0 (omega arith),
      tag_lo_back state t,
    )

-- a write of the data cache that is not refused
module _ (ls ws : List ℕ) (a len v : ℕ) (made : writes ls ws a len ≡ true) where
  abbrev after : List ℕ
  after = write_bytes ls ws a len v

  facts : (length ls ≡ 8192) × (len ≤ 8)
  facts =
      let p = both (fits ls ws) (eqb (access_refusal a len) 0) made in
      ((lengths 8192 ls ws refl p.0).0, (allowed a len (eqb-true (access_refusal a len) 0 p.1)).0)

  after_is : after ≡ paste ls (place_of 16 a) (bytes_of len v) len
  unfolding write_bytes
  after_is = rw made

  long : length (bytes_of len v) ≡ len
  long = omega (arith, length-drop (8 - len) (eight v), facts.1)

  -- the bytes are there
  pub written_there : take len (drop (place_of 16 a) after) ≡ bytes_of len v
  written_there =
      ap (λ (l : List ℕ). take len (drop (place_of 16 a) l)) after_is
      ∙ copied_back ls (bytes_of len v) (place_of 16 a) len (omega (arith, facts.0)) long

  -- and those before and after them stand
  pub before_stands : take (place_of 16 a) after ≡ take (place_of 16 a) ls
  before_stands =
      ap (take (place_of 16 a)) after_is
      ∙ ap (take (place_of 16 a)) (append_assoc (take (place_of 16 a) ls) (take len (bytes_of len v)) (drop (place_of 16 a + len) ls))
      ∙ take_at (take (place_of 16 a) ls) (take len (bytes_of len v) ++ drop (place_of 16 a + len) ls) (place_of 16 a)
      (length-take-le (place_of 16 a) ls (omega (arith, facts.0)))

  pub rest_stands : drop (place_of 16 a + len) after ≡ drop (place_of 16 a + len) ls
  rest_stands =
      ap (drop (place_of 16 a + len)) after_is
      ∙ drop-paste ls (place_of 16 a) (bytes_of len v) len (omega (arith, facts.0)) (omega (arith, long))

-- a flush with both flags off changes no word
pub flush_none : (ls ws : List ℕ) (a : ℕ) → flush_tags ls ws a false false ≡ ws
unfolding flush_tags
flush_none ls ws a = go (fits ls ws)
  where
    go : (b : Bool) → cond b (set ws (index_of 16 a) (get_or ws (index_of 16 a) 0)) ws ≡ ws
    go true = set-get_or ws (index_of 16 a) 0
    go false = refl
