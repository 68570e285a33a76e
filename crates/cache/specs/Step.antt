-- What each operation of a cache answers, and the parts that it leaves: one row for each, by the definitions of the caches.
use Rattle.std.specs.Prelude.{List, [], ◌∷◌, Bool, ℕ, ◌*◌, ◌%◌}
use Rattle.bits.specs.Told.{Told}
use Rattle.cache.specs.Both.{hits_told, load_told, resident_told, tags_told, store_tags, both_told, fresh_part, install_bytes, install_tags}
use Rattle.cache.specs.Data.{plan_told, plan_bytes, read_told, write_told, write_bytes, write_tags, flush_told, flush_bytes, flush_tags, create_told, create_bytes, create_tags}
use Rattle.cache.specs.Instruction as instruction

pub data Cache : Type 0 where
  dcache : Cache
  icache : Cache

-- a line's bytes, those of all lines, and PState of a valid line
abbrev pub size_of : Cache → ℕ
size_of dcache = 16
size_of icache = 32

abbrev pub capacity_of : Cache → ℕ
capacity_of dcache = 8192
capacity_of icache = 16384

abbrev pub state_of : Cache → ℕ
state_of dcache = 3
state_of icache = 2

-- what both caches do, and what one does alone; a is an address
pub data Op : Cache → Type 0 where
  new : {c : Cache} → Op c
  hits : {c : Cache} (a : ℕ) → Op c
  install : {c : Cache} (a : ℕ) (line : List ℕ) → Op c
  load_tag : {c : Cache} (a : ℕ) → Op c
  store_tag : {c : Cache} (a tag_lo : ℕ) → Op c
  resident_addr : {c : Cache} (index : ℕ) → Op c
  miss_plan : (a : ℕ) → Op dcache
  read : (a len : ℕ) → Op dcache
  write : (a len value : ℕ) → Op dcache
  flush_index : (a : ℕ) (invalidate clean : Bool) → Op dcache
  create_dirty_exclusive : (a : ℕ) → Op dcache
  read_word : (a : ℕ) → Op icache
  invalidate_index : (a : ℕ) → Op icache
  hit_invalidate : (a : ℕ) → Op icache
  flush_hit : (a : ℕ) → Op icache

-- what a caller lends: the bytes of all lines, and the tag words
pub record Parts : Type 0 where
  pub lines : List ℕ
  pub tags : List ℕ

abbrev pub lent : List ℕ → List ℕ → Parts
lent ls ws = record { lines = ls; tags = ws }

-- an answer, and the bytes of the line beside it: none where the operation answers no line
pub record Said : Type 0 where
  pub told : Told
  pub line : List ℕ

pub record Outcome : Type 0 where
  pub said : Said
  pub parts : Parts

abbrev pub outcome : Told → List ℕ → List ℕ → List ℕ → Outcome
outcome t l ls ws = record { said = record { told = t; line = l }; parts = lent ls ws }

-- what an operation says, and the parts that it leaves, from bytes ls and tag words ws
abbrev pub step_on : {c : Cache} → Op c → (ls ws : List ℕ) → Outcome
step_on {c} new ls ws = outcome (both_told (capacity_of c) ls ws) [] (fresh_part (capacity_of c) ls ws ls) (fresh_part (capacity_of c) ls ws ws)
step_on {c} (hits a) ls ws = outcome (hits_told (size_of c) ws a) [] ls ws
step_on {c} (install a line) ls ws =
    outcome (both_told (capacity_of c) ls ws) []
    (install_bytes (size_of c) (capacity_of c) ls ws a line)
    (install_tags (size_of c) (capacity_of c) ls ws a)
step_on {c} (load_tag a) ls ws = outcome (load_told (size_of c) (state_of c) ws a) [] ls ws
step_on {c} (store_tag a t) ls ws = outcome (tags_told ws) [] ls (store_tags (size_of c) (state_of c) ws a t)
step_on {c} (resident_addr i) ls ws = outcome (resident_told ws (i % 512) (i % 512 * size_of c)) [] ls ws
step_on (miss_plan a) ls ws = outcome (plan_told ls ws a) (plan_bytes ls ws a) ls ws
step_on (read a len) ls ws = outcome (read_told ls a len) [] ls ws
step_on (write a len v) ls ws = outcome (write_told ls ws a len) [] (write_bytes ls ws a len v) (write_tags ls ws a len)
step_on (flush_index a invalidate clean) ls ws = outcome (flush_told ls ws a) (flush_bytes ls ws a) ls (flush_tags ls ws a invalidate clean)
step_on (create_dirty_exclusive a) ls ws = outcome (create_told ls ws a) (create_bytes ls ws a) ls (create_tags ls ws a)
step_on (read_word a) ls ws = outcome (instruction.word_told ls a) [] ls ws
step_on (invalidate_index a) ls ws = outcome (tags_told ws) [] ls (instruction.invalidate_tags ws a)
step_on (hit_invalidate a) ls ws = outcome (tags_told ws) [] ls (instruction.hit_invalidate_tags ws a)
step_on (flush_hit a) ls ws = outcome (instruction.flush_told ls ws a) (instruction.flush_bytes ls ws a) ls ws

abbrev pub step_of : {c : Cache} → Op c → Parts → Outcome
step_of o p = step_on o p.lines p.tags

-- a run: the parts at the end, and what each operation said, in order
pub record Ran : Type 0 where
  pub parts : Parts
  pub said : List Said

abbrev pub preceded : Said → Ran → Ran
preceded a r = record { parts = r.parts; said = a ∷ r.said }

unfoldable pub run : {c : Cache} → List (Op c) → Parts → Ran
run [] p = record { parts = p; said = [] }
run (o ∷ os) p = preceded (step_of o p).said (run os (step_of o p).parts)
