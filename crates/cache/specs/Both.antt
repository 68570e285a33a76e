-- What both caches do alike, over the size of a line and the PState of a valid one. Refusal 1: a lent part has the wrong
-- length, and nothing changes.
use Rattle.std.specs.Prelude.{Bool, true, false, ◌&&◌, cond, List, [], ◌∷◌, ℕ, eqb, length, take, drop, replicate}
use Rattle.std.proofs.Math.Seq.{paste}
use Rattle.bits.specs.Field.{bit}
use Rattle.bits.specs.Told.{Told, answered, refused}
use Rattle.tags.specs.Words.{tag_of, word_of, hit_of, tag_lo_of, stored_of}
use Rattle.tags.specs.Places.{tagged, start_of, word_at, word_for, tags_with, resident_of}
use Rattle.cache.specs.Answers.{nothing}

unfoldable pub hits_told : ℕ → List ℕ → ℕ → Told
hits_told size ws a = cond (tagged ws) (answered (bit (hit_of (word_for size ws a) a) ∷ [])) (refused 1)

unfoldable pub load_told : ℕ → ℕ → List ℕ → ℕ → Told
load_told size state ws a = cond (tagged ws) (answered (tag_lo_of state (word_for size ws a) ∷ [])) (refused 1)

-- of line i, which starts at a place
unfoldable pub resident_told : List ℕ → ℕ → ℕ → Told
resident_told ws i start = cond (tagged ws) (answered (resident_of (word_at ws i) start ∷ [])) (refused 1)

-- an operation on tags alone
unfoldable pub tags_told : List ℕ → Told
tags_told ws = cond (tagged ws) nothing (refused 1)

unfoldable pub store_tags : ℕ → ℕ → List ℕ → ℕ → ℕ → List ℕ
store_tags size state ws a t = cond (tagged ws) (tags_with size ws a (stored_of state t)) ws

-- both lent parts have their lengths
unfoldable pub sized : ℕ → List ℕ → List ℕ → Bool
sized bytes ls ws = eqb (length ls) bytes && eqb (length ws) 512

-- an operation on both
unfoldable pub both_told : ℕ → List ℕ → List ℕ → Told
both_told bytes ls ws = cond (sized bytes ls ws) nothing (refused 1)

-- fresh: all zero
unfoldable pub fresh_part : ℕ → List ℕ → List ℕ → List ℕ → List ℕ
fresh_part bytes ls ws part = cond (sized bytes ls ws) (replicate (length part) 0) part

-- a line filled: its bytes, and a word that is valid and clean
unfoldable pub install_bytes : ℕ → ℕ → List ℕ → List ℕ → ℕ → List ℕ → List ℕ
install_bytes size bytes ls ws a line = cond (sized bytes ls ws) (paste ls (start_of size a) line size) ls

unfoldable pub install_tags : ℕ → ℕ → List ℕ → List ℕ → ℕ → List ℕ
install_tags size bytes ls ws a = cond (sized bytes ls ws) (tags_with size ws a (word_of (tag_of a) true false)) ws

-- the address that a line with this word and start is written back to, if it goes
abbrev pub evicted_if : Bool → ℕ → ℕ → Told
evicted_if b w start = cond b (answered (1 ∷ resident_of w start ∷ [])) nothing

-- and its bytes; zeros where it stays
abbrev pub bytes_if : ℕ → Bool → List ℕ → ℕ → List ℕ
bytes_if size b ls start = cond b (take size (drop start ls)) (replicate size 0)
