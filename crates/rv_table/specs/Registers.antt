-- The registers of a task.
use Rattle.std.specs.Prelude.{ℕ, ◌+◌, ◌%◌, ◌^◌, ◌==◌, if◌then◌else◌, slice_index, slice_set}
use Rattle.rv_table.specs.declared.registers.Regs.{Regs}

-- what a register holds; x0 is 0
-- RISC-V Unprivileged ISA 20191213, 2.1
abbrev pub reg : Regs → ℕ → ℕ
reg r n = if n == 0 then 0 else slice_index r.x n

-- the registers after a write; a write to x0 does nothing
-- RISC-V Unprivileged ISA 20191213, 2.1
abbrev pub with_reg : Regs → ℕ → ℕ → Regs
with_reg r n value = if n == 0 then r else record { pc = r.pc; x = slice_set r.x n value }

-- the registers at another instruction
-- RISC-V Unprivileged ISA 20191213, 2.1
abbrev pub at_pc : Regs → ℕ → Regs
at_pc r pc = record { pc = pc; x = r.x }

-- the registers after an instruction that goes on to the next one
-- RISC-V Unprivileged ISA 20191213, 2.2
abbrev pub gone_on : Regs → Regs
gone_on r = at_pc r ((r.pc + 4) % 2 ^ 64)
