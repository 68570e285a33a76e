-- The fresh table is one that operations can make, and every operation makes another: whatever the registers hold, the entry that
-- a write makes of them is sound, and all else leaves the entries.
use mathlib.Core.Path.{◌≡◌, refl, ap, sym, subst, ◌∙◌}
use mathlib.Core.Bool.{Bool, true, false, cond}
use mathlib.Core.List.{List, [], ◌∷◌}
use Prim.Native.Nat.{ℕ, zero, suc, ◌+◌, ◌-◌, ◌*◌, ◌/◌, ◌%◌, ◌^◌, ◌<◌, ◌≤◌}
use native.Mathlib.Decide.{ℕ_discrete}
use native.Mathlib.Omega.{arith}
use lib.Dec.{ltb}
use lib.ListN.{length-set, get_or, set}
use lib.Seq.{get_or-set_same, get_or-set_other}
use borrow.Author.Tests.{ltb-true}
use Rattle.bits.specs.Field.{field_of}
use Rattle.bits.specs.Mask.{cleared}
use Rattle.bits.proofs.FieldLaws.{field_lt, bit_lt}
use Rattle.bits.proofs.MaskLaws.{merged_none, merged_again}
use Rattle.cop0.specs.declared.registers.Cop0.{Cop0}
use Rattle.cop0.specs.Registers.{EntryLo0, EntryLo1, PageMask, EntryHi}
use Rattle.cop0.specs.File.{read_of}
use Rattle.tlb.specs.declared.entries.Entry.{Entry}
use Rattle.tlb.specs.declared.table.Tlb.{Tlb}
use Rattle.tlb.specs.declared.micro.ItlbProbed.{ItlbProbed}
use Rattle.tlb.specs.Entries.{vpn2_of}
use Rattle.tlb.specs.Table.{with_vpn2, fresh_entry, fresh_from, fresh_table, matching}
use Rattle.tlb.specs.Lookup.{shut_down, table_by, lookup_table}
use Rattle.tlb.specs.Micro.{with_itlb, lowest, slot_hits, probed_of, filled_of}
use Rattle.tlb.specs.Moves.{pairs, canonical_of, page_of, entry_of, written_of}
use Rattle.tlb.specs.Sound.{SoundHalf, Sound, SoundTable}
use Rattle.tlb.proofs.Freshly as freshly
use Rattle.tlb.proofs.Sizes.{pairs_small}
use Rattle.tlb.proofs.WordLaws.{left, left_at, left_lt}

-- a pair of equal bits, below p: omega wants the bit as a number
pair_up : (p b : ℕ) → b < 2 → (p * 4 + 3 * b) / 4 ≡ p
pair_up p b h = omega arith

pair_bit : (p b : ℕ) → b < 2 → field_of (p * 4 + 3 * b) 1 1 ≡ b
pair_bit p zero h = omega arith
pair_bit p (suc zero) h = omega arith
pair_bit p (suc (suc b)) h = absurd (omega arith)

-- a mask made canonical stays as it is
pairs_again : (n x : ℕ) → pairs n (pairs n x) ≡ pairs n x
unfolding pairs
pairs_again zero x = refl
pairs_again (suc n) x =
    let p : ℕ = pairs n (x / 4) in
    let b : ℕ = field_of x 1 1 in
    rw (pair_up p b (bit_lt x 1), pair_bit p b (bit_lt x 1), pairs_again n (x / 4))

pub canonical_again : (x : ℕ) → canonical_of (canonical_of x) ≡ canonical_of x
canonical_again x =
    let p : ℕ = pairs 6 (x / 2 ^ 13) in
    let up : p * 2 ^ 13 / 2 ^ 13 ≡ p = omega arith in
    rw (up, pairs_again 6 (x / 2 ^ 13))

-- VPN2 cleared under a canonical mask stays as it is
pub vpn2_again : (x v : ℕ) → vpn2_of (canonical_of x) (vpn2_of (canonical_of x) v) ≡ vpn2_of (canonical_of x) v
vpn2_again x v =
    let shifted : field_of (left x v * 2 ^ 13) 39 13 * 2 ^ 13 ≡ left x v * 2 ^ 13 = omega (arith, left_lt x v) in
    let whole : field_of (vpn2_of (canonical_of x) v) 39 13 * 2 ^ 13 ≡ vpn2_of (canonical_of x) v = rw (left_at x v) shifted in
    ap (cleared (canonical_of x)) whole ∙ merged_again 64 (canonical_of x) 0 0 (field_of v 39 13 * 2 ^ 13)

half_sound : (lo : ℕ) → SoundHalf (page_of lo)
half_sound lo = record { pfn = field_lt lo 25 6; c = field_lt lo 5 3 }

-- whatever the registers hold, the entry that they make is sound
pub entry_sound : (c : Cop0) → Sound (entry_of c)
unfolding entry_of
entry_sound c =
    record {
      mask = canonical_again (read_of c PageMask);
      vpn2 = vpn2_again (read_of c PageMask) (read_of c EntryHi);
      asid = field_lt (read_of c EntryHi) 7 0;
      region = field_lt (read_of c EntryHi) 63 62;
      lo0 = half_sound (read_of c EntryLo0);
      lo1 = half_sound (read_of c EntryLo1);
    }

pub fresh_sound : (k : ℕ) → k < 32 → Sound (fresh_entry k)
unfolding pairs
fresh_sound k h =
    let v : ℕ = (0x7FF_FFFF - k) * 8192 in
    let whole : field_of v 39 13 * 2 ^ 13 ≡ v = omega arith in
    let zero_sound : SoundHalf (fresh_entry k).lo0 = record { pfn = omega arith; c = omega arith } in
    record {
      mask = refl;
      vpn2 = ap (cleared 0) whole ∙ merged_none 64 0 v (omega arith);
      asid = omega arith;
      region = omega arith;
      lo0 = zero_sound;
      lo1 = zero_sound;
    }

-- a sound mask lies below bit 25, and VPN2 in bits 39..13
pub sound_mask : (e : Entry) → Sound e → e.page_mask < 2 ^ 25
sound_mask e s =
    subst (λ (m : ℕ). m < 2 ^ 25) s.mask (omega (arith, pairs_small 6 (e.page_mask / 2 ^ 13) (omega arith)))

pub sound_vpn2 : (e : Entry) → Sound e → field_of e.vpn2 39 13 * 2 ^ 13 ≡ e.vpn2
sound_vpn2 e s =
    let m : ℕ = e.page_mask in
    let w : ℕ = left m e.vpn2 in
    let at : w * 2 ^ 13 ≡ e.vpn2 = sym (left_at m e.vpn2) ∙ ap (λ (k : ℕ). vpn2_of k e.vpn2) s.mask ∙ s.vpn2 in
    let shifted : field_of (w * 2 ^ 13) 39 13 * 2 ^ 13 ≡ w * 2 ^ 13 = omega (arith, left_lt m e.vpn2) in
    subst (λ (v : ℕ). field_of v 39 13 * 2 ^ 13 ≡ v) at shifted

empty_micro : (k : ℕ) → k < 2 → get_or (32 ∷ 32 ∷ []) k 0 ≤ 32
empty_micro zero h = omega arith
empty_micro (suc zero) h = omega arith
empty_micro (suc (suc k)) h = absurd (omega arith)

-- tables
pub fresh_table_sound : SoundTable fresh_table
unfolding fresh_from
fresh_table_sound =
    record {
      long = refl;
      each = λ i h. subst Sound (sym (freshly.nth_fresh 32 0 i h ∙ ap fresh_entry (omega arith))) (fresh_sound i h);
      micro = record { two = refl; slot = empty_micro; next = omega arith };
    }

pub written_sound : (t : Tlb) → SoundTable t → (i : ℕ) (c : Cop0) → SoundTable (written_of t i c)
unfolding written_of
written_sound t s i c =
    record {
      long = length-set t.entries (i % 32) (entry_of c) ∙ s.long;
      each = λ k h. go k h (ℕ_discrete k (i % 32));
      micro = record { two = refl; slot = empty_micro; next = s.micro.next };
    }
  where
    go : (k : ℕ) → k < 32 → Dec (k ≡ i % 32) → Sound (get_or (set t.entries (i % 32) (entry_of c)) k (with_vpn2 0))
    go k h (yes p) =
        subst Sound (sym (ap (λ (j : ℕ). get_or (set t.entries (i % 32) (entry_of c)) j (with_vpn2 0)) p
        ∙ get_or-set_same t.entries (i % 32) (entry_of c) (with_vpn2 0) (omega (arith, s.long)))) (entry_sound c)
    go k h (no p) = subst Sound (sym (get_or-set_other t.entries (i % 32) k (entry_of c) (with_vpn2 0) p)) (s.each k h)

shut_sound : (t : Tlb) → SoundTable t → SoundTable (shut_down t)
shut_sound t s = record { long = s.long; each = s.each; micro = s.micro }

pub lookup_sound : (t : Tlb) → SoundTable t → (v asid : ℕ) → SoundTable (lookup_table t v asid)
unfolding lookup_table
lookup_sound t s v asid = go t.shutdown (matching t.entries v asid 0)
  where
    go : (b : Bool) (l : List ℕ) → SoundTable (cond b t (table_by t l))
    go true l = s
    go false [] = s
    go false (i ∷ []) = s
    go false (i ∷ j ∷ is) = shut_sound t s

-- the micro-TLB with the same slots and another next one
next_sound : (t : Tlb) → SoundTable t → (n : ℕ) → n ≤ 1 → SoundTable (with_itlb t t.itlb n)
next_sound t s n h = record { long = s.long; each = s.each; micro = record { two = s.micro.two; slot = s.micro.slot; next = h } }

pub probed_sound : (t : Tlb) → SoundTable t → (v asid : ℕ) → SoundTable (probed_of t v asid).tlb
unfolding probed_of
probed_sound t s v asid = go (slot_hits t (get_or t.itlb 0 0) v asid) (slot_hits t (get_or t.itlb 1 0) v asid)
  where
    go : (x y : Bool)
        → SoundTable
        (cond {A = ItlbProbed} x (record { hit = true; tlb = with_itlb t t.itlb 1 })
        (cond y (record { hit = true; tlb = with_itlb t t.itlb 0 })
        (record { hit = false; tlb = t }))).tlb
    go true y = next_sound t s 1 (omega arith)
    go false true = next_sound t s 0 (omega arith)
    go false false = s

pub filled_sound : (t : Tlb) → SoundTable t → (v asid : ℕ) → SoundTable (filled_of t v asid)
unfolding filled_of
filled_sound t s v asid = go (ltb (lowest t v asid) 32) refl
  where
    l : ℕ
    l = lowest t v asid

    n : ℕ
    n = t.itlb_lru % 2

    slots : l < 32 → (k : ℕ) → k < 2 → Dec (k ≡ n) → get_or (set t.itlb n l) k 0 ≤ 32
    slots h k q (yes p) =
        let got : get_or (set t.itlb n l) k 0 ≡ l
        = ap (λ (j : ℕ). get_or (set t.itlb n l) j 0) p ∙ get_or-set_same t.itlb n l 0 (omega (arith, s.micro.two)) in
        omega (arith, got)
    slots h k q (no p) = subst (λ (x : ℕ). x ≤ 32) (sym (get_or-set_other t.itlb n k l 0 p)) (s.micro.slot k q)

    go : (b : Bool) → ltb l 32 ≡ b → SoundTable (cond b (with_itlb t (set t.itlb n l) (1 - n)) t)
    go true e =
        record {
          long = s.long;
          each = s.each;
          micro = record {
            two = length-set t.itlb n l ∙ s.micro.two;
            slot = λ k q. slots (ltb-true l 32 e) k q (ℕ_discrete k n);
            next = omega arith;
          };
        }
    go false e = s
