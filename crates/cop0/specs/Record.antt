-- The register record with some of its fields replaced, and the fresh one.
use Rattle.std.specs.Prelude.{ℕ, List, replicate, slice_index, slice_set}
use Rattle.cop0.specs.declared.registers.Cop0.{Cop0}
use Rattle.cop0.specs.Registers.{Random, Status, PRId, Config}

-- register n as stored
abbrev pub reg : Cop0 → ℕ → ℕ
reg c n = slice_index c.regs n

-- the record with other registers, clock, epoch, last-asked Count and latch: all that ever changes
abbrev pub put : Cop0 → List ℕ → ℕ → ℕ → ℕ → ℕ → ℕ → Cop0
put c rs t v k l w =
    record {
      regs = rs;
      now = t;
      count_epoch_value = v;
      count_epoch_tick = k;
      last_count = l;
      ec = c.ec;
      write_latch = w;
    }

abbrev pub with_regs : Cop0 → List ℕ → Cop0
with_regs c rs = put c rs c.now c.count_epoch_value c.count_epoch_tick c.last_count c.write_latch

abbrev pub with_reg : Cop0 → ℕ → ℕ → Cop0
with_reg c n x = with_regs c (slice_set c.regs n x)

abbrev pub with_now : Cop0 → ℕ → Cop0
with_now c t = put c c.regs t c.count_epoch_value c.count_epoch_tick c.last_count c.write_latch

abbrev pub with_epoch : Cop0 → ℕ → ℕ → Cop0
with_epoch c v k = put c c.regs c.now v k c.last_count c.write_latch

abbrev pub with_last_count : Cop0 → ℕ → Cop0
with_last_count c l = put c c.regs c.now c.count_epoch_value c.count_epoch_tick l c.write_latch

abbrev pub with_latch : Cop0 → ℕ → Cop0
with_latch c w = put c c.regs c.now c.count_epoch_value c.count_epoch_tick c.last_count w

-- cold reset (6.4.4): Status has ERL and BEV, Random is 31, Config has BE, PRId is 0B22, EC is 7, all else 0
unfoldable pub fresh : Cop0
fresh =
    record {
      regs = slice_set (slice_set (slice_set (slice_set (replicate 32 0) Status 0x0040_0004) Random 31) Config 0x8000) PRId 0x0B22;
      now = 0;
      count_epoch_value = 0;
      count_epoch_tick = 0;
      last_count = 0;
      ec = 7;
      write_latch = 0;
    }
