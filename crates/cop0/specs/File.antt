-- Reads and writes of the register file under its masks.
use Rattle.std.specs.Prelude.{ℕ, ◌*◌, ◌%◌, ◌^◌, false, cond, ◌==◌, bit_or}
use Rattle.bits.specs.Mask.{under, merged}
use Rattle.bits.specs.Extension.{low32_of}
use Rattle.cop0.specs.declared.registers.Cop0.{Cop0}
use Rattle.cop0.specs.Registers.{Random, Wired, Count, Compare, Config, unused, write_mask, arch_mask}
use Rattle.cop0.specs.Record.{reg, with_reg, with_epoch}
use Rattle.cop0.specs.Interrupt.{set_ip_of}
use Rattle.cop0.specs.Clock.{count_of, asked}

-- Config reads as its own bits joined with EC and the bits that are wired (figure 5-16)
abbrev pub config_of : Cop0 → ℕ
config_of c = bit_or (bit_or (under (arch_mask Config) (reg c Config)) (c.ec * 2 ^ 28)) 0x0006_6460

-- register n below 32
unfoldable pub read_at : Cop0 → ℕ → ℕ
read_at c n =
    cond (unused n) c.write_latch
    (cond (n == Count) (count_of c)
    (cond (n == Config) (config_of c)
    (under (arch_mask n) (reg c n))))

abbrev pub read_of : Cop0 → ℕ → ℕ
read_of c n = read_at c (n % 32)

-- what a write to Count, Compare or Wired does besides: Count is v from the present clock on; Compare clears the timer's
-- pending bit (6.4.18); both move the last-asked mark; Wired sets Random to 31 (5.4.2)
unfoldable pub besides : ℕ → ℕ → Cop0 → Cop0
besides n v c =
    cond (n == Count) (asked (with_epoch c (low32_of v) c.now))
    (cond (n == Compare) (asked (set_ip_of c 7 false))
    (cond (n == Wired) (with_reg c Random 31)
    c))

-- a write replaces the bits under the register's write mask only
unfoldable pub write_at : Cop0 → ℕ → ℕ → Cop0
write_at c n v = besides n v (with_reg c n (merged (write_mask n) v (reg c n)))

abbrev pub write_of : Cop0 → ℕ → ℕ → Cop0
write_of c n v = write_at c (n % 32) v

-- hardware writes every bit that the register has, and no other; Count does not move
unfoldable pub set_hardware_of : Cop0 → ℕ → ℕ → Cop0
set_hardware_of c n v = with_reg c (n % 32) (under (arch_mask (n % 32)) v)
