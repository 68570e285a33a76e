-- The access that Status asks for. Its fields (6.3.5): KX 7, SX 6, UX 5, KSU 4..3, ERL 2, EXL 1.
use Rattle.std.specs.Prelude.{Bool, false, ◌&&◌, ◌||◌, cond, [], ◌∷◌, ℕ, eqb}
use Rattle.bits.specs.Field.{field_of}
use Rattle.bits.specs.Told.{Told, answered, refused}
use Rattle.addr.specs.declared.access.Mode.{Mode}
use Rattle.addr.specs.declared.access.Mode.TheVariants.{Kernel, Supervisor, User}
use Rattle.addr.specs.declared.access.Access.{Access}
use Rattle.addr.specs.Answers.{mode_number}

abbrev pub kernel_access : Access
kernel_access = record { mode = Kernel; wide = false; erl = false }

-- an access in a mode, with the bit of Status that is its width
abbrev pub in_mode : Mode → ℕ → ℕ → Told
in_mode m width s = answered (mode_number m ∷ field_of s width width ∷ field_of s 2 2 ∷ [])

-- kernel when EXL is 1, ERL is 1 or KSU is 0
unfoldable pub is_kernel_of : ℕ → Bool
is_kernel_of s = eqb (field_of s 1 1) 1 || eqb (field_of s 2 2) 1 || eqb (field_of s 4 3) 0

-- and its width then is KX; else KSU 1 is supervisor, 2 user, each with its own width, and 3 is refused
unfoldable pub access_of : ℕ → Told
access_of s =
    cond (is_kernel_of s) (in_mode Kernel 7 s)
    (cond (eqb (field_of s 4 3) 1) (in_mode Supervisor 6 s)
    (cond (eqb (field_of s 4 3) 2) (in_mode User 5 s)
    (refused 4)))

-- KSU is 3 and both bits are 0: refusal 4 is given exactly there
abbrev pub names_none : ℕ → Bool
names_none s = eqb (field_of s 4 3) 3 && eqb (field_of s 1 1) 0 && eqb (field_of s 2 2) 0
