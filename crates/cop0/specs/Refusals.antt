-- What is turned away, by its number in the scope (document 01, "What is turned away").
use Rattle.std.specs.Prelude.{ℕ}
use Rattle.cop0.specs.declared.refusal.Refusal.{Refusal}
use Rattle.cop0.specs.declared.refusal.Refusal.TheVariants.{Counts, Form}

abbrev pub refusal_number : Refusal → ℕ
refusal_number Counts = 5
refusal_number Form = 6
