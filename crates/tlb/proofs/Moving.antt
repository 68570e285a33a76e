-- What the hardware's setting of a register keeps, TLBR and TLBP keep.
use Prim.Native.Nat.{ℕ}
use Rattle.cop0.specs.declared.registers.Cop0.{Cop0}
use Rattle.cop0.specs.File.{set_hardware_of}
use Rattle.tlb.specs.declared.table.Tlb.{Tlb}
use Rattle.tlb.specs.Moves.{read_entry_of, probe_of}

module _ (P : Cop0 → Type 0) (set : (c : Cop0) → P c → (n v : ℕ) → P (set_hardware_of c n v)) where
  pub read_entry_by : (t : Tlb) (i : ℕ) (c : Cop0) → P c → P (read_entry_of t i c)
  unfolding read_entry_of
  read_entry_by t i c p = set _ (set _ (set _ (set _ p _ _) _ _) _ _) _ _

  pub probe_by : (t : Tlb) (c : Cop0) → P c → P (probe_of t c)
  unfolding probe_of
  probe_by t c p = set _ p _ _
