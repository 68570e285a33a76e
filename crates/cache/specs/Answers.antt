-- The number and the values of each answer.
use Rattle.std.specs.Prelude.{Bool, cond, List, [], ◌∷◌, ℕ, Option, Some, None, Result, Ok, Err}
use Rattle.bits.specs.Field.{bit}
use Rattle.bits.specs.Told.{Told, answered, refused}
use Rattle.lines.specs.Access as access
use Rattle.cache.specs.declared.answers.Refusal.{Refusal}
use Rattle.cache.specs.declared.answers.Refusal.TheVariants.{Lent, Access}
use Rattle.cache.specs.declared.answers.Plan.{Plan}
use Rattle.cache.specs.declared.answers.Plan.TheVariants.{Hit, Fill, Evict}

-- a lent part of the wrong length is refusal 1, and an access has its own number
abbrev pub refusal_number : Refusal → ℕ
refusal_number Lent = 1
refusal_number (Access r) = access.refusal_number r

-- what a test of the lent parts answers
abbrev pub lent_if : Bool → Result (Unit {0}) Refusal
lent_if b = cond b (Ok tt) (Err Lent)

-- an answer by its values, and a refusal by its number alone
abbrev pub told_by : {A : Type 0} → (A → List ℕ) → Result A Refusal → Told
told_by values (Ok a) = answered (values a)
told_by values (Err r) = refused (refusal_number r)

-- nothing to say is 0, which no refusal has among its values
abbrev pub nothing : Told
nothing = answered (0 ∷ [])

abbrev pub told_done : Result (Unit {0}) Refusal → Told
told_done r = told_by (λ (u : Unit {0}). 0 ∷ []) r

abbrev pub told_asked : Result Bool Refusal → Told
told_asked r = told_by (λ (b : Bool). bit b ∷ []) r

abbrev pub told_value : Result ℕ Refusal → Told
told_value r = told_by (λ (v : ℕ). v ∷ []) r

-- a hit is 0, a fill 1, and an eviction 2 with its address
abbrev pub plan_values : Plan → List ℕ
plan_values Hit = 0 ∷ []
plan_values Fill = 1 ∷ []
plan_values (Evict a) = 2 ∷ a ∷ []

abbrev pub told_plan : Result Plan Refusal → Told
told_plan r = told_by plan_values r

-- an eviction is 1 with its address
abbrev pub writeback_values : Option ℕ → List ℕ
writeback_values None = 0 ∷ []
writeback_values (Some a) = 1 ∷ a ∷ []

abbrev pub told_writeback : Result (Option ℕ) Refusal → Told
told_writeback r = told_by writeback_values r
