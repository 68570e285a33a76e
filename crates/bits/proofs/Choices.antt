-- A choice between two answers.
use Rattle.std.proofs.Common.{Bool, true, false, cond}

-- what holds of both holds of the one that is chosen
pub either : {A : Type 0} (P : A → Type 0) (b : Bool) {x y : A} → P x → P y → P (cond b x y)
either P true p q = p
either P false p q = q
