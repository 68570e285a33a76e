-- No second outcome fits a contract that is an equation with a definition: every `Unique.antt` cites these.
use Rattle.std.proofs.Common.{◌≡◌, sym, ap, ◌∙◌}

-- two outcomes that equal the same definition are equal
pub same : {A : Type 0} {r r' x : A} → r ≡ x → r' ≡ x → r ≡ r'
same p q = p ∙ sym q

-- the same, where the contract speaks of an outcome through a definition f that g undoes, and so is one-to-one
pub one_to_one : {A B : Type 0} (f : A → B) (g : B → A) → ((a : A) → g (f a) ≡ a) → (r r' : A) → f r ≡ f r' → r ≡ r'
one_to_one f g undone r r' e = sym (undone r) ∙ ap g e ∙ undone r'
