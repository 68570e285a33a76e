-- The access read from Status. It is refused exactly where KSU is 3 and EXL and ERL are 0; it is the kernel's, with KX for its width, by
-- EXL, by ERL and by KSU; where it is not refused, it is what the Rust original's pipeline makes of Status. So the handler of a reset is
-- reached while ERL is 1, whatever KSU asks for.
use Rattle.std.proofs.Common.{Result, Ok, Err}
use mathlib.Core.Path.{◌≡◌, refl, ap, sym, ◌∙◌}
use mathlib.Core.Bool.{Bool, true, false, ◌||◌, cond, or-true, false≢true}
use mathlib.Core.List.{[]}
use Prim.Native.Nat.{ℕ, ◌%◌, ◌^◌, ◌<◌, ◌≤◌}
use native.Mathlib.Nat.{mod-lt}
use native.Mathlib.Omega.{arith}
use borrow.Author.Tests.{eq-eqb}
use lib.Dec.{eqb}
use lib.ListN.{get_or}
use Rattle.bits.specs.Field.{field_of}
use Rattle.bits.specs.Told.{Told, refused, equal}
use Rattle.bits.proofs.FieldLaws.{low_field}
use Rattle.bits.proofs.Tables.{agree_told}
use Rattle.tlb.specs.declared.table.Tlb.{Tlb}
use Rattle.addr.specs.declared.access.Mode.{Mode}
use Rattle.addr.specs.declared.access.Mode.TheVariants.{Kernel, Supervisor, User}
use Rattle.addr.specs.declared.access.Access.{Access}
use Rattle.addr.specs.declared.segments.Cached.TheVariants.{No}
use Rattle.addr.specs.declared.translate.Translation.{Translation}
use Rattle.addr.specs.declared.refusal.Refusal.{Refusal}
use Rattle.addr.specs.declared.refusal.Refusal.TheVariants.{NoMode}
use Rattle.addr.specs.Answers.{refusal_number}
use Rattle.addr.specs.Answers.{told_access, told_translate}
use Rattle.addr.specs.Access.{in_mode, is_kernel_of, access_of, names_none}
use Rattle.addr.specs.Pipeline.{pipeline_mode, width_bit, pipeline_access, pipeline_told}
use Rattle.addr.specs.Segments.{inside, segment_of}
use Rattle.addr.specs.Translate.{reached, translate_answer}
use Rattle.addr.proofs.Answers.{mode_at, mode_undone, access_one, translate_one}
use Rattle.addr.proofs.access.Access.from_status.Reads as from_status
use Rattle.addr.proofs.translate.translate_via.Reads as translate_via

-- the 128 combinations of KSU, EXL, ERL and the three widths, each with IE (bit 0) and without
by_pipeline : (k : ℕ) → k < 2 ^ 8 → access_of k ≡ pipeline_told k
unfolding access_of is_kernel_of
by_pipeline = agree_told (2 ^ 8) access_of pipeline_told refl

width_lt : (m : Mode) → width_bit m < 8
width_lt User = omega arith
width_lt Supervisor = omega arith
width_lt Kernel = omega arith

module _ (s : ℕ) where
  low : (hi lo : ℕ) → lo ≤ hi → hi < 8 → field_of (s % 2 ^ 8) hi lo ≡ field_of s hi lo
  low hi lo = low_field s hi lo 8

  -- no bit from 8 up counts
  pub low_byte : access_of (s % 2 ^ 8) ≡ access_of s
  unfolding access_of is_kernel_of
  low_byte =
      rw (
        low 1 1 (omega arith) (omega arith),
        low 2 2 (omega arith) (omega arith),
        low 4 3 (omega arith) (omega arith),
        low 5 5 (omega arith) (omega arith),
        low 6 6 (omega arith) (omega arith),
        low 7 7 (omega arith) (omega arith),
      )

  low_byte_pipeline : pipeline_told (s % 2 ^ 8) ≡ pipeline_told s
  low_byte_pipeline =
      let width : ℕ = width_bit (pipeline_mode s) in
      rw (
        low 1 1 (omega arith) (omega arith),
        low 2 2 (omega arith) (omega arith),
        low 2 1 (omega arith) (omega arith),
        low 4 3 (omega arith) (omega arith),
        low width width (omega arith) (width_lt (pipeline_mode s)),
      )

  pub pipeline_agrees : access_of s ≡ pipeline_told s
  pipeline_agrees = sym low_byte ∙ by_pipeline (s % 2 ^ 8) (mod-lt s (omega arith)) ∙ low_byte_pipeline

  pub kernel_by_exl : field_of s 1 1 ≡ 1 → access_of s ≡ in_mode Kernel 7 s
  unfolding access_of is_kernel_of
  kernel_by_exl e = rw (eq-eqb _ _ e)

  pub kernel_by_erl : field_of s 2 2 ≡ 1 → access_of s ≡ in_mode Kernel 7 s
  unfolding access_of is_kernel_of
  kernel_by_erl e = rw (eq-eqb _ _ e, or-true (eqb (field_of s 1 1) 1))

  pub kernel_by_ksu : field_of s 4 3 ≡ 0 → access_of s ≡ in_mode Kernel 7 s
  unfolding access_of is_kernel_of
  kernel_by_ksu e = rw (eq-eqb _ 0 e, or-true (eqb (field_of s 1 1) 1 || eqb (field_of s 2 2) 1))

-- the answer's number, which a form for another language returns
pub refusal_is : (s : ℕ) → (access_of s).number ≡ cond (names_none s) 4 0
refusal_is s = ap (λ (t : Told). t.number) (pipeline_agrees s) ∙ go (names_none s)
  where
    go : (b : Bool) → (cond b (refused 4) (pipeline_access s)).number ≡ cond b 4 0
    go true = refl
    go false = refl

pub refused_there : (s : ℕ) → names_none s ≡ true → access_of s ≡ refused 4
refused_there s e = pipeline_agrees s ∙ ap (λ (b : Bool). cond b (refused 4) (pipeline_access s)) e

abbrev no_values : Told → Bool
no_values t = equal t.values []

pub refused_only_there : (s n : ℕ) → access_of s ≡ refused n → (names_none s ≡ true) × (n ≡ 4)
refused_only_there s n e = go (names_none s) refl (sym (pipeline_agrees s) ∙ e)
  where
    go : (b : Bool) → names_none s ≡ b → cond b (refused 4) (pipeline_access s) ≡ refused n → (names_none s ≡ true) × (n ≡ 4)
    go true t q = (t, sym (ap (λ (u : Told). u.number) q))
    go false t q = absurd (false≢true (ap no_values q))

-- the same of a call, by its contract
module _ (a : ℕ × Unit {0}) (r : Result Access Refusal) (p : from_status.Post tt a r a) where
  pub call_refused : names_none a.0 ≡ true → r ≡ Err NoMode
  call_refused none = access_one r (Err NoMode) (p ∙ refused_there a.0 none)

  pub call_refused_only : (n : Refusal) → r ≡ Err n → (names_none a.0 ≡ true) × (refusal_number n ≡ 4)
  call_refused_only n e = refused_only_there a.0 (refusal_number n) (sym p ∙ ap told_access e)

-- where a console starts after a reset (6.4.4)
abbrev pub reset_handler : ℕ
reset_handler = 0xFFFF_FFFF_BFC0_0000

-- a fetch by the kernel, whatever its width and ERL
module _ (t : Tlb) (asid : ℕ) (store : Bool) where
  by_kernel : (wide erl : Bool)
      → translate_answer t reset_handler asid store (record { mode = Kernel; wide = wide; erl = erl }) ≡ reached 0x1FC0_0000 No 32
  unfolding translate_answer segment_of inside
  by_kernel true true = refl
  by_kernel true false = refl
  by_kernel false true = refl
  by_kernel false false = refl

  pub reset_handler_reached : (s : ℕ) → field_of s 2 2 ≡ 1 → (a : Access) → told_access (Ok a) ≡ access_of s
      → translate_answer t reset_handler asid store a ≡ reached 0x1FC0_0000 No 32
  reset_handler_reached s erl a e =
      ap (λ (m : Mode). translate_answer t reset_handler asid store (record { mode = m; wide = a.wide; erl = a.erl }))
      (sym (mode_undone a.mode) ∙ ap (λ (u : Told). mode_at (get_or u.values 0 0)) (e ∙ kernel_by_erl s erl))
      ∙ by_kernel a.wide a.erl

  -- the same of two calls, by their contracts: what Status asks for, and the fetch by it
  pub boot_goes_on : (s : ℕ) → field_of s 2 2 ≡ 1 → (a : Access) (r : Translation) → from_status.Post tt (s, tt) (Ok a) (s, tt)
      → translate_via.Post tt (t, (reset_handler, (asid, (store, (a, tt))))) r (t, (reset_handler, (asid, (store, (a, tt)))))
      → r.answer ≡ reached 0x1FC0_0000 No 32
  boot_goes_on s erl a r p q =
      translate_one r.answer (reached 0x1FC0_0000 No 32) (q.0 ∙ ap told_translate (reset_handler_reached s erl a p))
