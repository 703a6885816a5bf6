-- What the atomic memory operations of RV64A store, a row a line in the manual's order.
-- RISC-V Unprivileged ISA 20191213, 8.4, Atomic Memory Operations
use Rattle.std.specs.Prelude.{ℕ, ◌+◌, bit_and, bit_or, bit_xor, min, max, int_lt, if◌then◌else◌}
use Rattle.rv_table.specs.declared.instr.Instr.{Instr}
use Rattle.rv_table.specs.declared.instr.Instr.TheVariants as instr
use Rattle.rv_table.specs.Words.{signed, signed_word, low_word, sum}

-- the lesser and the greater of two double words, as signed numbers
-- 8.4, AMOMIN.D and AMOMAX.D
abbrev pub lesser : (a b : ℕ) → ℕ
lesser a b = if int_lt (signed a) (signed b) then a else b

abbrev pub greater : (a b : ℕ) → ℕ
greater a b = if int_lt (signed a) (signed b) then b else a

-- the lesser and the greater of two words, as signed numbers
-- 8.4, AMOMIN.W and AMOMAX.W
abbrev pub lesser_word : (a b : ℕ) → ℕ
lesser_word a b = if int_lt (signed_word a) (signed_word b) then low_word a else low_word b

abbrev pub greater_word : (a b : ℕ) → ℕ
greater_word a b = if int_lt (signed_word a) (signed_word b) then low_word b else low_word a

-- what an instruction stores: `old` is what memory held, and `b` what rs2 holds. An instruction that is no atomic
-- memory operation has 0
-- 8.4, Atomic Memory Operations
unfoldable pub stored_by : Instr → (old b : ℕ) → ℕ
stored_by (instr.AmoswapW rd rs1 rs2) old b = low_word b
stored_by (instr.AmoaddW rd rs1 rs2) old b = low_word (old + b)
stored_by (instr.AmoxorW rd rs1 rs2) old b = bit_xor (low_word old) (low_word b)
stored_by (instr.AmoandW rd rs1 rs2) old b = bit_and (low_word old) (low_word b)
stored_by (instr.AmoorW rd rs1 rs2) old b = bit_or (low_word old) (low_word b)
stored_by (instr.AmominW rd rs1 rs2) old b = lesser_word old b
stored_by (instr.AmomaxW rd rs1 rs2) old b = greater_word old b
stored_by (instr.AmominuW rd rs1 rs2) old b = min (low_word old) (low_word b)
stored_by (instr.AmomaxuW rd rs1 rs2) old b = max (low_word old) (low_word b)
stored_by (instr.AmoswapD rd rs1 rs2) old b = b
stored_by (instr.AmoaddD rd rs1 rs2) old b = sum old b
stored_by (instr.AmoxorD rd rs1 rs2) old b = bit_xor old b
stored_by (instr.AmoandD rd rs1 rs2) old b = bit_and old b
stored_by (instr.AmoorD rd rs1 rs2) old b = bit_or old b
stored_by (instr.AmominD rd rs1 rs2) old b = lesser old b
stored_by (instr.AmomaxD rd rs1 rs2) old b = greater old b
stored_by (instr.AmominuD rd rs1 rs2) old b = min old b
stored_by (instr.AmomaxuD rd rs1 rs2) old b = max old b
stored_by _ old b = 0
