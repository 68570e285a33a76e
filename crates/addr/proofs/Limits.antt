-- The limits of the segments, computed: a row's first and last address are reached as the row says, and the addresses just
-- outside are address errors, unless another row adjoins there.
use mathlib.Core.Path.{◌≡◌, refl}
use mathlib.Core.Bool.{Bool, true, false, ◌&&◌, ◌||◌, cond}
use mathlib.Core.List.{List, [], ◌∷◌}
use Prim.Native.Nat.{ℕ, ◌+◌, ◌-◌, ◌*◌, ◌%◌, ◌^◌}
use lib.Dec.{eqb}
use Rattle.bits.specs.Told.{equal}
use Rattle.addr.specs.declared.access.Mode.{Mode}
use Rattle.addr.specs.declared.access.Mode.TheVariants.{Kernel, Supervisor, User}
use Rattle.addr.specs.declared.access.Access.{Access}
use Rattle.addr.specs.declared.segments.Cached.TheVariants.{Yes, No}
use Rattle.addr.specs.declared.segments.Segment.{Segment}
use Rattle.addr.specs.declared.segments.Segment.TheVariants.{Mapped, Invalid}
use Rattle.addr.specs.Answers.{told_segment}
use Rattle.addr.specs.Segments.{direct, how, SegmentRow, row, inside, segment_in, rows_of, erl_row, table_of}

abbrev each : {A : Type 0} → (A → Bool) → List A → Bool
each f [] = true
each f (x ∷ xs) = f x && each f xs

abbrev some : {A : Type 0} → (A → Bool) → List A → Bool
some f [] = false
some f (x ∷ xs) = f x || some f xs

abbrev alike : Segment → Segment → Bool
alike g h = equal (told_segment g).values (told_segment h).values

-- the address before a row's first and the one after its last, where there is one
abbrev before : List SegmentRow → ℕ → Bool
before rows first = eqb first 0 || alike (segment_in rows (first - 1)) Invalid || some (λ (r : SegmentRow). eqb r.last (first - 1)) rows

abbrev after : List SegmentRow → ℕ → Bool
after rows last = eqb last (2 ^ 64 - 1) || alike (segment_in rows (last + 1)) Invalid || some (λ (r : SegmentRow). eqb r.first (last + 1)) rows

abbrev ends : List SegmentRow → SegmentRow → Bool
ends rows r =
    alike (segment_in rows r.first) (how r.kind r.first)
    && alike (segment_in rows r.last) (how r.kind r.last)

abbrev limits : List SegmentRow → SegmentRow → Bool
limits rows r = ends rows r && before rows r.first && after rows r.last

abbrev tables : List (List SegmentRow)
tables =
    rows_of User false
    ∷ rows_of User true
    ∷ rows_of Supervisor false
    ∷ rows_of Supervisor true
    ∷ rows_of Kernel false
    ∷ rows_of Kernel true
    ∷ []

pub every_row : each (λ (rows : List SegmentRow). each (limits rows) rows) tables ≡ true
unfolding inside
every_row = refl

-- and each row begins and ends at a multiple of 512 MB: none is closed an address early, or late
abbrev whole : SegmentRow → Bool
whole r = eqb (r.first % 2 ^ 29) 0 && eqb ((r.last + 1) % 2 ^ 29) 0

pub every_end : each (each whole) ((erl_row ∷ []) ∷ tables) ≡ true
every_end = refl

-- the eight windows of xkphys, by their C field: the rest of xkphys's row are address errors
abbrev window : ℕ → SegmentRow
window c = row (2 ^ 63 + c * 2 ^ 59) (2 ^ 63 + c * 2 ^ 59 + (2 ^ 32 - 1)) (direct 31 (cond (eqb c 2) No Yes))

pub every_window : each (λ (c : ℕ). limits (rows_of Kernel true) (window c)) (0 ∷ 1 ∷ 2 ∷ 3 ∷ 4 ∷ 5 ∷ 6 ∷ 7 ∷ []) ≡ true
unfolding inside
every_window = refl

abbrev access : Mode → Bool → Bool → Access
access m wide erl = record { mode = m; wide = wide; erl = erl }

abbrev modes : List Mode
modes = Kernel ∷ Supervisor ∷ User ∷ []

-- with ERL the first 2 GB are ERL's row; past them come the mode's own rows, which a narrow mode does not have there
pub erl_narrow : each (λ (m : Mode). limits (table_of (access m false true)) erl_row) modes ≡ true
unfolding inside
erl_narrow = refl

-- a wide mode's rows go on: the first address past ERL's row is mapped
abbrev goes_on : List SegmentRow → Bool
goes_on rows = ends rows erl_row && alike (segment_in rows (erl_row.last + 1)) Mapped

pub erl_wide : each (λ (m : Mode). goes_on (table_of (access m true true))) modes ≡ true
unfolding inside
erl_wide = refl
