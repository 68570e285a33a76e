-- P12: a tag stored in the data cache loads back, and its resident address.
use Rattle.std.specs.Prelude.{List, [], ◌∷◌, ℕ, replicate}
use Rattle.tags.specs.Places.{index_of, start_of}
use Rattle.cache.specs.Both.{load_told, resident_told, store_tags}
use Rattle.numbers.specs.Table.{NumberRow, row, answer}

-- fresh tag words, after a store at 1010
abbrev stored : List ℕ
stored = store_tags 16 3 (replicate 512 0) 0x1010 0x12C0

abbrev pub p12 : List NumberRow
p12 =
    row (answer (load_told 16 3 stored 0x1010)) (0 ∷ 0x12C0 ∷ [])
    ∷ row (answer (resident_told stored (index_of 16 0x1010) (start_of 16 0x1010))) (0 ∷ 0x12010 ∷ [])
    ∷ []
