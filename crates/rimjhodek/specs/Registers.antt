-- The register record as 38 words: 32 registers, now, the epoch's value and tick, the last-asked Count, EC, the latch.
use Rattle.std.specs.Prelude.{ℕ, suc, ◌+◌, ◌*◌, ◌/◌, ◌%◌, ◌^◌, Bool, cond, ◌&&◌, List, [], ◌∷◌, ◌++◌, take, replicate, ◌==◌, nat_le, slice_index, slice_set}
use Rattle.bits.specs.Extension.{low32_of}
use Rattle.bits.specs.Told.{Told}
use Rattle.cop0.specs.declared.registers.Cop0.{Cop0}
use Rattle.cop0.specs.declared.access.Cop0Op.TheVariants.{Mfc0, Dmfc0, Mtc0, Dmtc0}
use Rattle.cop0.specs.Registers.{Count, Config, among}
use Rattle.cop0.specs.Clock.{less, count_of}
use Rattle.cop0.specs.File.{config_of}
use Rattle.cop0.specs.Access.{rs_of}
use Rattle.rimjhodek.specs.declared.answers.Number.{Number}

-- the record that 38 words mean; of the epoch's value, the last-asked Count and EC the low 32, 32 and 8 bits
abbrev pub cop0_in : List ℕ → Cop0
cop0_in ws =
    record {
      regs = take 32 ws;
      now = slice_index ws 32;
      count_epoch_value = low32_of (slice_index ws 33);
      count_epoch_tick = slice_index ws 34;
      last_count = low32_of (slice_index ws 35);
      ec = slice_index ws 36 % 2 ^ 8;
      write_latch = slice_index ws 37;
    }

-- a word with its low k bits replaced by x
abbrev pub over : ℕ → ℕ → ℕ → ℕ
over k w x = w / 2 ^ k * 2 ^ k + x

-- a record put into words; bits that mean nothing stay
unfoldable pub put_in : List ℕ → Cop0 → List ℕ
put_in ws c =
    c.regs
    ++ (c.now
    ∷ over 32 (slice_index ws 33) c.count_epoch_value
    ∷ c.count_epoch_tick
    ∷ over 32 (slice_index ws 35) c.last_count
    ∷ over 8 (slice_index ws 36) c.ec
    ∷ c.write_latch
    ∷ [])

-- words in which every bit is 0
abbrev pub blank : List ℕ
blank = replicate 38 0

-- the words of a record: no bit is set that means nothing
abbrev pub cop0_words : Cop0 → List ℕ
cop0_words c = put_in blank c

-- the registers that read something else than their own bits under a mask
unfoldable pub is_special : ℕ → Bool
is_special k = among (7 ∷ 9 ∷ 16 ∷ 21 ∷ 22 ∷ 23 ∷ 24 ∷ 25 ∷ 31 ∷ []) k

-- and what they read
unfoldable pub special_of : Cop0 → ℕ → ℕ
special_of c k = cond (k == Count) (count_of c) (cond (k == Config) (config_of c) c.write_latch)

-- the registers of which a write does something besides: Wired, Count, Compare
unfoldable pub is_watched : ℕ → Bool
is_watched k = among (6 ∷ 9 ∷ 11 ∷ []) k

-- Count came to Compare from the last-asked Count on
unfoldable pub comes_to_compare : ℕ → ℕ → ℕ → Bool
comes_to_compare count compare last =
    nat_le 1 (less 32 compare last) && nat_le (less 32 compare last) (less 32 count last)

-- where a number stands in a list, counted from 0
abbrev pub place_in : List ℕ → ℕ → ℕ
place_in [] x = 0
place_in (y ∷ ys) x = cond (x == y) 0 (suc (place_in ys x))

-- an access form by its place among MFC0, DMFC0, MTC0 and DMTC0, or the refusal, whose value is 0
unfoldable pub form_of : Told → Number
form_of t =
    record {
      refused = t.number;
      value = place_in (rs_of Mfc0 ∷ rs_of Dmfc0 ∷ rs_of Mtc0 ∷ rs_of Dmtc0 ∷ []) (slice_index t.values 0);
    }

-- some registers of a file, by their numbers, put into words
abbrev pub putting_back : List ℕ → List ℕ → List ℕ → List ℕ
putting_back [] from ws = ws
putting_back (n ∷ ns) from ws = putting_back ns from (slice_set ws n (slice_index from n))
