-- The words beside the entries: what is stored to them is what an operation changes of the table.
use Rattle.std.proofs.Common.{◌≡◌, ℕ, zero, suc, ◌+◌, ◌-◌, ◌%◌, ◌^◌, ◌<◌, eqb, List, [], ◌∷◌, get_or, set, sym, ◌∙◌, div-add-mod', arith, get_or-set_other}
use lib.Seq.{set-get_or}
use Rattle.bits.specs.Field.{field_of, bit, with_field_of}
use Rattle.bits.proofs.FieldLaws.{bit_tested}
use Rattle.tlb.specs.declared.table.Tlb.{Tlb}
use Rattle.tlb.specs.Lookup.{shut_down}
use Rattle.tlb.specs.Micro.{with_itlb}
use Rattle.rimjhodek.specs.Registers.{over}
use Rattle.rimjhodek.specs.Table.{table_in, put_micro, emptied}

-- a word's own low bits put back
whole : (k w : ℕ) → over k w (w % 2 ^ k) ≡ w
whole k w = div-add-mod' w (2 ^ k)

flagged : (w : ℕ) → over 1 w (bit (eqb (w % 2) 1)) ≡ w
flagged w =
    let e : w % 2 ≡ field_of w 0 0 = omega arith in
    let b : bit (eqb (w % 2) 1) ≡ w % 2 = rw e (bit_tested w 0) in
    rw b (whole 1 w)

-- and other ones
pub with_byte : (w x : ℕ) → x < 2 ^ 8 → with_field_of w 7 0 x ≡ over 8 w x
unfolding with_field_of
with_byte w x h = omega arith

with_bit : (w : ℕ) → with_field_of w 0 0 1 ≡ over 1 w 1
unfolding with_field_of
with_bit w = omega arith

-- a store of what is there
idle : (ws : List ℕ) (n x : ℕ) → x ≡ get_or ws n 0 → set ws n x ≡ ws
idle ws n x e = rw e (set-get_or ws n 0)

module _ (ws : List ℕ) where
  abbrev w : ℕ → ℕ
  w n = get_or ws n 0

  pub at_home : put_micro ws (table_in ws) ≡ ws
  unfolding put_micro
  at_home =
      rw (
        whole 8 (w 128),
        whole 8 (w 129),
        whole 8 (w 130),
        flagged (w 131),
        set-get_or ws 128 0,
        set-get_or ws 129 0,
        set-get_or ws 130 0,
        set-get_or ws 131 0,
      )

  -- shut down
  pub to_shut : set ws 131 (with_field_of (w 131) 0 0 1) ≡ put_micro ws (shut_down (table_in ws))
  unfolding put_micro
  to_shut =
      rw (
        with_bit (w 131),
        whole 8 (w 128),
        whole 8 (w 129),
        whole 8 (w 130),
        set-get_or ws 128 0,
        set-get_or ws 129 0,
        set-get_or ws 130 0,
      )

  -- another slot next
  pub to_next : (n : ℕ) → n < 2 ^ 8 → set ws 130 (with_field_of (w 130) 7 0 n) ≡ put_micro ws (with_itlb (table_in ws) (table_in ws).itlb n)
  unfolding put_micro
  to_next n h =
      let x : ℕ = over 8 (w 130) n in
      rw (
        with_byte (w 130) n h,
        whole 8 (w 128),
        whole 8 (w 129),
        flagged (w 131),
        set-get_or ws 128 0,
        set-get_or ws 129 0,
      )
      (sym (idle (set ws 130 x) 131 (w 131) (sym (get_or-set_other ws 130 131 x 0 (λ q. omega (arith, q))))))

  -- a slot filled, and the other next
  module _ (i : ℕ) (h : i < 2 ^ 8) where
    abbrev filled : ℕ → List ℕ
    filled way = set ws (128 + way) (with_field_of (w (128 + way)) 7 0 i)

    pub to_slot : (way : ℕ) → way < 2
        → set (filled way) 130 (with_field_of (get_or (filled way) 130 0) 7 0 (1 - way))
        ≡ put_micro ws (with_itlb (table_in ws) (set (table_in ws).itlb way i) (1 - way))
    unfolding put_micro
    to_slot zero p =
        let x : ℕ = over 8 (w 128) i in
        let y : ℕ = over 8 (w 130) 1 in
        rw (
          with_byte (w 128) i h,
          get_or-set_other ws 128 130 x 0 (λ q. omega (arith, q)),
          with_byte (w 130) 1 (omega arith),
          whole 8 (w 129),
          flagged (w 131),
          idle (set ws 128 x) 129 (w 129) (sym (get_or-set_other ws 128 129 x 0 (λ q. omega (arith, q)))),
        )
        (sym (idle (set (set ws 128 x) 130 y) 131 (w 131)
        (sym (get_or-set_other (set ws 128 x) 130 131 y 0 (λ q. omega (arith, q)) ∙ get_or-set_other ws 128 131 x 0 (λ q. omega (arith, q))))))
    to_slot (suc zero) p =
        let x : ℕ = over 8 (w 129) i in
        let y : ℕ = over 8 (w 130) 0 in
        rw (
          with_byte (w 129) i h,
          get_or-set_other ws 129 130 x 0 (λ q. omega (arith, q)),
          with_byte (w 130) 0 (omega arith),
          whole 8 (w 128),
          set-get_or ws 128 0,
          flagged (w 131),
        )
        (sym (idle (set (set ws 129 x) 130 y) 131 (w 131)
        (sym (get_or-set_other (set ws 129 x) 130 131 y 0 (λ q. omega (arith, q)) ∙ get_or-set_other ws 129 131 x 0 (λ q. omega (arith, q))))))
    to_slot (suc (suc way)) p = absurd (omega arith)

  -- both slots empty, and the rest as it was
  pub to_empty : (t : Tlb) → t.itlb ≡ 32 ∷ 32 ∷ [] → t.itlb_lru ≡ w 130 % 2 ^ 8 → t.shutdown ≡ eqb (w 131 % 2) 1
      → emptied ws ≡ put_micro ws t
  unfolding put_micro
  to_empty t slots next shut =
      let x : ℕ = over 8 (w 128) 32 in
      let y : ℕ = over 8 (w 129) 32 in
      let l : List ℕ = set (set ws 128 x) 129 y in
      let past : (k : ℕ) → 129 < k → get_or l k 0 ≡ w k =
      λ k h. get_or-set_other (set ws 128 x) 129 k y 0 (λ q. omega (arith, q)) ∙ get_or-set_other ws 128 k x 0 (λ q. omega (arith, q)) in
      rw (slots, next, shut, whole 8 (w 130), flagged (w 131), idle l 130 (w 130) (sym (past 130 (omega arith))))
      (sym (idle l 131 (w 131) (sym (past 131 (omega arith)))))
