-- Which branches are taken, a row a line in the manual's order.
-- RISC-V Unprivileged ISA 20191213, 2.5, Conditional Branches
use Rattle.std.specs.Prelude.{ℕ, Bool, false, not, nat_eq, nat_lt, int_lt}
use Rattle.rv_table.specs.declared.instr.Instr.{Instr}
use Rattle.rv_table.specs.declared.instr.Instr.TheVariants as instr
use Rattle.rv_table.specs.Words.{signed}

-- whether a branch is taken: `a` is what rs1 holds, and `b` what rs2 holds. No other instruction is taken
unfoldable pub is_taken : Instr → (a b : ℕ) → Bool
is_taken (instr.Beq rs1 rs2 imm) a b = nat_eq a b
is_taken (instr.Bne rs1 rs2 imm) a b = not (nat_eq a b)
is_taken (instr.Blt rs1 rs2 imm) a b = int_lt (signed a) (signed b)
is_taken (instr.Bge rs1 rs2 imm) a b = not (int_lt (signed a) (signed b))
is_taken (instr.Bltu rs1 rs2 imm) a b = nat_lt a b
is_taken (instr.Bgeu rs1 rs2 imm) a b = not (nat_lt a b)
is_taken _ a b = false
