-- What a number names: a case of a list, or nothing.
use Rattle.std.proofs.Common.{◌≡◌, ◌≤◌, ℕ, zero, suc, Bool, true, false, cond, Some, None, List, [], ◌∷◌, length, sym, refl, slice_get, slice_index_or, arith, lt-ltb, le-ltb}
use Rattle.std.proofs.lemmas.Option.{none-some, slice_get_within, get_or_from_slice_get}
use Rattle.addr.specs.declared.access.Mode.{Mode}
use Rattle.addr.specs.declared.access.Mode.TheVariants.{User}
use Rattle.exception.specs.declared.kinds.Exception.{Exception}
use Rattle.exception.specs.declared.kinds.Exception.TheVariants.{FloatingPoint}
use Rattle.exception.specs.declared.vectors.VectorKind.{VectorKind}
use Rattle.exception.specs.declared.vectors.VectorKind.TheVariants.{Reset}
use Rattle.rimjhodek.specs.declared.exceptions.Exc.{Exc}
use Rattle.rimjhodek.specs.Numbered.{names}
use Rattle.rimjhodek.specs.Exceptions.{exceptions_of, is_exception, exception_of, kinds, is_kind, kind_of}
use Rattle.rimjhodek.specs.Modes.{modes, is_mode, mode_in}

named : {A : Type 0} (xs : List A) (n : ℕ) (x d : A) → slice_get xs n ≡ Some x → (names xs n ≡ true) × (slice_index_or xs n d ≡ x)
named xs n x d e = (lt-ltb n (length xs) (slice_get_within xs n x e), get_or_from_slice_get xs n x d e)

past : {A : Type 0} (xs : List A) (n : ℕ) → slice_get xs n ≡ None → length xs ≤ n
past [] n e = omega arith
past (y ∷ ys) zero e = absurd (none-some y (sym e))
past (y ∷ ys) (suc n) e = omega (arith, past ys n e)

unnamed : {A : Type 0} (xs : List A) (n : ℕ) → slice_get xs n ≡ None → names xs n ≡ false
unnamed xs n e = le-ltb n (length xs) (past xs n e)

pub exception_named : (e : Exc) (x : Exception) → slice_get (exceptions_of e) e.number ≡ Some x → (is_exception e ≡ true) × (exception_of e ≡ x)
unfolding exception_of
exception_named e x = named (exceptions_of e) e.number x FloatingPoint

pub exception_unnamed : (e : Exc) → slice_get (exceptions_of e) e.number ≡ None → is_exception e ≡ false
exception_unnamed e = unnamed (exceptions_of e) e.number

pub kind_named : (n : ℕ) (k : VectorKind) → slice_get kinds n ≡ Some k → (is_kind n ≡ true) × (kind_of n ≡ k)
unfolding kind_of
kind_named n k = named kinds n k Reset

pub kind_unnamed : (n : ℕ) → slice_get kinds n ≡ None → is_kind n ≡ false
kind_unnamed = unnamed kinds

pub mode_named : (n : ℕ) (m : Mode) → slice_get modes n ≡ Some m → (is_mode n ≡ true) × (mode_in n ≡ m)
unfolding mode_in
mode_named n m = named modes n m User

pub cond_none : {A : Type 0} (b : Bool) (x : A) → cond b (Some x) None ≡ None → b ≡ false
cond_none false x e = refl
cond_none true x e = absurd (none-some x (sym e))
