-- The registers that a read of an entry and a probe change: these words stored are the whole change, and mean the changed record.
use Rattle.std.proofs.Common.{◌≡◌, ℕ, List, [], ◌∷◌, length, refl, arith}
use Rattle.cop0.specs.declared.registers.Cop0.{Cop0}
use Rattle.cop0.specs.Registers.{Index, EntryLo0, EntryLo1, PageMask, EntryHi, among}
use Rattle.cop0.specs.Only.{Only}
use Rattle.cop0.proofs.Hardware.{only_none, only_set}
use Rattle.tlb.specs.declared.table.Tlb.{Tlb}
use Rattle.tlb.specs.Moves.{read_entry_of, probe_of}
use Rattle.rimjhodek.specs.Registers.{cop0_in, put_in, putting_back}
use Rattle.rimjhodek.proofs.PuttingBack.{Low, put_back}

abbrev pub of_read : List ℕ
of_read = PageMask ∷ EntryHi ∷ EntryLo0 ∷ EntryLo1 ∷ []

pub only_read : (t : Tlb) (i : ℕ) (c : Cop0) → Only of_read c (read_entry_of t i c)
unfolding read_entry_of among
only_read t i c =
    only_set (only_set (only_set (only_set (only_none of_read c) PageMask _ refl) EntryHi _ refl) EntryLo0 _ refl) EntryLo1 _ refl

abbrev pub of_probe : List ℕ
of_probe = Index ∷ []

pub only_probed : (t : Tlb) (c : Cop0) → Only of_probe c (probe_of t c)
unfolding probe_of among
only_probed t c = only_set (only_none of_probe c) Index _ refl

low_read : Low of_read
low_read = (omega arith, (omega arith, (omega arith, (omega arith, tt))))

low_probe : Low of_probe
low_probe = (omega arith, tt)

module _ (ws : List ℕ) (long : length ws ≡ 38) (t : Tlb) where
  module _ (i : ℕ) where
    abbrev r : Cop0
    r = read_entry_of t i (cop0_in ws)

    pub put_read : putting_back of_read r.regs ws ≡ put_in ws r
    put_read = put_back of_read ws r long low_read (only_read t i (cop0_in ws))

  abbrev p : Cop0
  p = probe_of t (cop0_in ws)

  pub put_probed : putting_back of_probe p.regs ws ≡ put_in ws p
  put_probed = put_back of_probe ws p long low_probe (only_probed t (cop0_in ws))
