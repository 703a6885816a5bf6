-- What the instructions of RV64I and RV64M compute, a row a line in the manual's order.
-- RISC-V Unprivileged ISA 20191213, 2.4, 5.2, 7.1 and 7.2
use Rattle.std.specs.Prelude.{ℕ, ◌+◌, ◌-◌, ◌*◌, ◌/◌, ◌%◌, ◌^◌, ℤ, pos, ◌*ℤ◌, nat_eq, nat_lt, int_lt, int_div, int_rem}
use Rattle.std.specs.Prelude.{bit_and, bit_or, bit_xor, if◌then◌else◌}
use Rattle.std.specs.Int.{int_shr}
use Rattle.rv_table.specs.declared.instr.Instr.{Instr}
use Rattle.rv_table.specs.declared.instr.Instr.TheVariants as instr
use Rattle.rv_table.specs.Words.{signed, bits_of, low_word, signed_word, word, flag, sum, difference, product}
use Rattle.rv_table.specs.Words.{shifted_left, shifted_right}

-- quotient and remainder, towards 0; what a division by 0 gives
-- 7.2, Division Operations, table 7.1
abbrev pub quotient : ℤ → ℤ → ℕ → ℕ
quotient a b bits = if nat_eq bits 0 then 2 ^ 64 - 1 else bits_of (int_div a b)

abbrev pub remainder : ℤ → ℤ → ℕ → ℕ → ℕ
remainder a b dividend bits = if nat_eq bits 0 then dividend else bits_of (int_rem a b)

-- the value of an instruction: `a` is what rs1 holds, or pc for AUIPC, and `b` what rs2 holds. An instruction that
-- computes none has 0
unfoldable pub value_of : Instr → (a b : ℕ) → ℕ
value_of (instr.Lui rd imm) a b = imm
value_of (instr.Auipc rd imm) a b = sum a imm
value_of (instr.Addi rd rs1 imm) a b = sum a imm
value_of (instr.Slti rd rs1 imm) a b = flag (int_lt (signed a) (signed imm))
value_of (instr.Sltiu rd rs1 imm) a b = flag (nat_lt a imm)
value_of (instr.Xori rd rs1 imm) a b = bit_xor a imm
value_of (instr.Ori rd rs1 imm) a b = bit_or a imm
value_of (instr.Andi rd rs1 imm) a b = bit_and a imm
value_of (instr.Slli rd rs1 shamt) a b = shifted_left a (shamt % 64)
value_of (instr.Srli rd rs1 shamt) a b = shifted_right a (shamt % 64)
value_of (instr.Srai rd rs1 shamt) a b = bits_of (int_shr (signed a) (shamt % 64))
value_of (instr.Add rd rs1 rs2) a b = sum a b
value_of (instr.Sub rd rs1 rs2) a b = difference a b
value_of (instr.Sll rd rs1 rs2) a b = shifted_left a (b % 64)
value_of (instr.Slt rd rs1 rs2) a b = flag (int_lt (signed a) (signed b))
value_of (instr.Sltu rd rs1 rs2) a b = flag (nat_lt a b)
value_of (instr.Xor rd rs1 rs2) a b = bit_xor a b
value_of (instr.Srl rd rs1 rs2) a b = shifted_right a (b % 64)
value_of (instr.Sra rd rs1 rs2) a b = bits_of (int_shr (signed a) (b % 64))
value_of (instr.Or rd rs1 rs2) a b = bit_or a b
value_of (instr.And rd rs1 rs2) a b = bit_and a b
value_of (instr.Addiw rd rs1 imm) a b = word (a + imm)
value_of (instr.Slliw rd rs1 shamt) a b = word (a * 2 ^ (shamt % 32))
value_of (instr.Srliw rd rs1 shamt) a b = word (shifted_right (low_word a) (shamt % 32))
value_of (instr.Sraiw rd rs1 shamt) a b = bits_of (int_shr (signed_word a) (shamt % 32))
value_of (instr.Addw rd rs1 rs2) a b = word (a + b)
value_of (instr.Subw rd rs1 rs2) a b = word (a + (2 ^ 64 - b))
value_of (instr.Sllw rd rs1 rs2) a b = word (a * 2 ^ (b % 32))
value_of (instr.Srlw rd rs1 rs2) a b = word (shifted_right (low_word a) (b % 32))
value_of (instr.Sraw rd rs1 rs2) a b = bits_of (int_shr (signed_word a) (b % 32))
value_of (instr.Mul rd rs1 rs2) a b = product a b
value_of (instr.Mulh rd rs1 rs2) a b = bits_of (int_shr (signed a *ℤ signed b) 64)
value_of (instr.Mulhsu rd rs1 rs2) a b = bits_of (int_shr (signed a *ℤ pos b) 64)
value_of (instr.Mulhu rd rs1 rs2) a b = a * b / 2 ^ 64
value_of (instr.Div rd rs1 rs2) a b = quotient (signed a) (signed b) b
value_of (instr.Divu rd rs1 rs2) a b = if nat_eq b 0 then 2 ^ 64 - 1 else a / b
value_of (instr.Rem rd rs1 rs2) a b = remainder (signed a) (signed b) a b
value_of (instr.Remu rd rs1 rs2) a b = if nat_eq b 0 then a else a % b
value_of (instr.Mulw rd rs1 rs2) a b = word (a * b)
value_of (instr.Divw rd rs1 rs2) a b = word (quotient (signed_word a) (signed_word b) (low_word b))
value_of (instr.Divuw rd rs1 rs2) a b = if nat_eq (low_word b) 0 then 2 ^ 64 - 1 else word (low_word a / low_word b)
value_of (instr.Remw rd rs1 rs2) a b = word (remainder (signed_word a) (signed_word b) a (low_word b))
value_of (instr.Remuw rd rs1 rs2) a b = if nat_eq (low_word b) 0 then word a else word (low_word a % low_word b)
value_of _ a b = 0
