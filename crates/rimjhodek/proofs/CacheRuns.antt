-- Calls of a cache's exports, one after the other over the parts that a caller lends, are a run of the crate `cache`. So members of a room
-- who make the same calls on equal parts have equal answers and equal parts, and what every run keeps holds of a caller's parts.
use Rattle.std.proofs.Common.{◌≡◌, List, [], ◌∷◌, sym, refl, ap, ◌∙◌, subst}
use Rattle.cache.specs.Step.{Cache, Op, new, Parts, Outcome, Ran, preceded, run}
use Rattle.cache.specs.Within.{Whole, Low, Keeps, AllTyped, Never}
use Rattle.cache.proofs.Keeping.{refused_stands}
use Rattle.cache.proofs.Running.{run_keeps, made_stays}
use Rattle.rimjhodek.proofs.CacheSteps.{Call, call_steps}

-- calls, each from the parts that the one before left
pub data Calls (c : Cache) : List (Op c) → Parts → Ran → Type 0 where
  none : (p : Parts) → Calls c [] p (record { parts = p; said = [] })
  next : {o : Op c} {os : List (Op c)} {p : Parts} {r : Outcome} {n : Ran}
      → Call c o p r → Calls c os r.parts n → Calls c (o ∷ os) p (preceded r.said n)

module _ {c : Cache} where
  pub calls_are_the_run : {os : List (Op c)} {p : Parts} {n : Ran} → Calls c os p n → n ≡ run os p
  unfolding run
  calls_are_the_run (none p) = refl
  calls_are_the_run (next {os = os} {r = r} k ks) =
      ap (preceded r.said) (calls_are_the_run ks)
      ∙ ap (λ (q : Outcome). preceded q.said (run os q.parts)) (call_steps k)

  -- two members with the same calls
  pub members_alike : {os : List (Op c)} {p p' : Parts} {n n' : Ran} → p ≡ p' → Calls c os p n → Calls c os p' n'
      → (n.said ≡ n'.said) × (n.parts ≡ n'.parts)
  members_alike {os} {n = n} {n' = n'} e ks ks' =
      let alike : n ≡ n' = calls_are_the_run ks ∙ ap (λ (p : Parts). run os p) e ∙ sym (calls_are_the_run ks') in
      (ap (λ (m : Ran). m.said) alike, ap (λ (m : Ran). m.parts) alike)

  -- a refused call changes nothing
  pub refused_call : {o : Op c} {p : Parts} {r : Outcome} → Call c o p r → (r.said.told.number ≡ 0 → ⊥) → r.parts ≡ p
  refused_call {o} {p} k refused =
      let e = call_steps k in
      ap (λ (q : Outcome). q.parts) e ∙ refused_stands o p (λ z. refused (ap (λ (q : Outcome). q.said.told.number) e ∙ z))

  -- no call changes the length of a part, or gives a word a bit that means nothing
  pub calls_keep : {os : List (Op c)} {p : Parts} {n : Ran} → Calls c os p n → AllTyped os → Keeps p n.parts
  calls_keep {os} {p} ks t = subst (λ (m : Ran). Keeps p m.parts) (sym (calls_are_the_run ks)) (run_keeps os p t)

  -- after `new` has answered 0, no call answers refusal 1, and no word ever has such a bit
  pub made_by_new : {os : List (Op c)} {p : Parts} {r : Outcome} {n : Ran} → Call c new p r → r.said.told.number ≡ 0
      → Calls c os r.parts n → AllTyped os → Whole c n.parts × Low n.parts.tags × Never 1 n.said
  made_by_new {os} {p} k z ks t =
      let e = call_steps k in
      subst (λ (m : Ran). Whole c m.parts × Low m.parts.tags × Never 1 m.said)
      (sym (calls_are_the_run ks ∙ ap (λ (q : Outcome). run os q.parts) e))
      (made_stays c p (sym (ap (λ (q : Outcome). q.said.told.number) e) ∙ z) os t)
