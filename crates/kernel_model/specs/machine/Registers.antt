-- The registers of a task at a system call.
use Rattle.std.specs.Prelude.{ℕ, ℤ}
use Rattle.std.specs.Int.{cast_unsigned, w64}
use Rattle.rv_table.specs.declared.registers.Regs.{Regs}
use Rattle.rv_table.specs.Registers.{reg, with_reg, gone_on}
use Rattle.kernel_model.specs.declared.entry.Args.{Args}

-- the arguments of a call, a0 to a5
-- syscall(2), riscv
abbrev pub args_of : Regs → Args
args_of r = record { a0 = reg r 10; a1 = reg r 11; a2 = reg r 12; a3 = reg r 13; a4 = reg r 14; a5 = reg r 15 }

-- the number of a call, in a7
-- syscall(2), riscv
abbrev pub call_of : Regs → ℕ
call_of r = reg r 17

-- the registers after a call: the reply in a0, and on to the next instruction
-- syscall(2), riscv
abbrev pub replied : Regs → ℤ → Regs
replied r reply = gone_on (with_reg r 10 (cast_unsigned w64 reply))
