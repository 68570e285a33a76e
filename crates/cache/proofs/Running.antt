-- What every run of a cache's operations keeps, and what holds of a cache that was made.
use mathlib.Core.Path.{◌≡◌, refl, ◌∙◌}
use mathlib.Core.Bool.{Bool, true, false, cond}
use mathlib.Core.List.{List, [], ◌∷◌}
use native.Mathlib.Omega.{arith}
use lib.ListN.{length}
use Rattle.bits.specs.Told.{refused}
use Rattle.cache.specs.Answers.{nothing}
use Rattle.cache.specs.Both.{sized, both_told, fresh_part}
use Rattle.cache.specs.Step.{Cache, capacity_of, Op, new, Parts, step_of, run}
use Rattle.cache.specs.Within.{Whole, Low, Keeps, AllTyped, Never}
use Rattle.cache.proofs.Keeping.{zeros_low, keeps_all, step_keeps, step_not_1}

keeps_then : {p q r : Parts} → Keeps p q → Keeps q r → Keeps p r
keeps_then f g = record { lines = g.lines ∙ f.lines; tags = g.tags ∙ f.tags; low = λ k. g.low (f.low k) }

pub keeps_whole : {p q : Parts} (c : Cache) → Keeps p q → Whole c p → Whole c q
unfolding sized
keeps_whole c k w = rw (k.lines, k.tags) w

pub run_keeps : {c : Cache} (os : List (Op c)) (p : Parts) → AllTyped os → Keeps p (run os p).parts
unfolding run AllTyped
run_keeps [] p t = keeps_all p
run_keeps (o ∷ os) p (t, ts) = keeps_then (step_keeps o p t) (run_keeps os (step_of o p).parts ts)

-- nothing is refused for a length where the lengths are right
pub run_never_1 : {c : Cache} (os : List (Op c)) (p : Parts) → AllTyped os → Whole c p → Never 1 (run os p).said
unfolding run AllTyped Never
run_never_1 [] p t w = tt
run_never_1 {c} (o ∷ os) p (t, ts) w =
    (step_not_1 o p w, run_never_1 os (step_of o p).parts ts (keeps_whole c (step_keeps o p t) w))

-- a cache is made where `new` answers 0: what it was lent has its lengths, and words are low then
module _ (c : Cache) (p : Parts) (e : (step_of (new {c = c}) p).said.told.number ≡ 0) where
  abbrev fresh : Parts
  fresh = (step_of (new {c = c}) p).parts

  given_whole : Whole c p
  unfolding both_told
  given_whole = go (sized (capacity_of c) p.lines p.tags) e
    where
      go : (b : Bool) → (cond b nothing (refused 1)).number ≡ 0 → b ≡ true
      go true z = refl
      go false z = absurd (omega arith)

  pub made_whole : Whole c fresh
  made_whole = keeps_whole c (step_keeps (new {c = c}) p tt) given_whole

  pub made_low : Low fresh.tags
  unfolding fresh_part
  made_low = rw given_whole (zeros_low (length p.tags))

  -- and so it stays
  pub made_stays : (os : List (Op c)) → AllTyped os
      → Whole c (run os fresh).parts × Low (run os fresh).parts.tags × Never 1 (run os fresh).said
  made_stays os t =
      (keeps_whole c (run_keeps os fresh t) made_whole, (run_keeps os fresh t).low made_low, run_never_1 os fresh t made_whole)
