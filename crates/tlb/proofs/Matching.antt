-- Whether an entry matches, test by test.
use Rattle.std.proofs.Common.{◌≡◌, ap, ◌∙◌, true, false, ℕ, ◌*◌, eqb, eq-eqb, ne_eqb}
use Rattle.bits.specs.Field.{field_of}
use Rattle.bits.specs.Mask.{cleared}
use Rattle.tlb.specs.declared.entries.Entry.{Entry}
use Rattle.tlb.specs.Entries.{vpn2_of, matches_of}

-- r is the address's region as the code has read it
module _ (e : Entry) (v asid r : ℕ) (er : r ≡ field_of v 63 62) where
  pub other_region : (r ≡ e.region → ⊥) → false ≡ matches_of e v asid
  unfolding matches_of
  other_region n = rw (← er, ne_eqb r e.region n)

  -- f is its bits 39..13, and t those in place with the mask's cleared
  module _ (same : r ≡ e.region) (f t : ℕ) (ef : f ≡ field_of v 39 13) (et : t ≡ cleared e.page_mask (f * 8192)) where
    tag : t ≡ vpn2_of e.page_mask v
    tag = et ∙ ap (λ (x : ℕ). cleared e.page_mask (x * 8192)) ef

    pub other_tag : (t ≡ e.vpn2 → ⊥) → false ≡ matches_of e v asid
    unfolding matches_of
    other_tag n = rw (← er, eq-eqb r e.region same, ← tag, ne_eqb t e.vpn2 n)

    pub is_global : t ≡ e.vpn2 → e.global ≡ true → true ≡ matches_of e v asid
    unfolding matches_of
    is_global q g = rw (← er, eq-eqb r e.region same, ← tag, eq-eqb t e.vpn2 q, g)

    pub by_asid : t ≡ e.vpn2 → e.global ≡ false → eqb e.asid asid ≡ matches_of e v asid
    unfolding matches_of
    by_asid q g = rw (← er, eq-eqb r e.region same, ← tag, eq-eqb t e.vpn2 q, g)
