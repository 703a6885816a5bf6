-- The kinds of loads, by the bytes that they take and by how their number is extended.
use Rattle.std.specs.Prelude.{ℕ}
use Rattle.rv_table.specs.declared.error.MemErr.{MemErr}
use Rattle.rv_table.specs.declared.error.MemErr.TheVariants as refusals
use Rattle.rv_exec.specs.Execution.{extended}
use Rattle.rv_exec.specs.declared.load.Load.{Load}
use Rattle.rv_exec.specs.declared.load.Load.TheVariants.{Byte, Half, Word, Double, UnsignedByte, UnsignedHalf}
use Rattle.rv_exec.specs.declared.load.Load.TheVariants.{UnsignedWord}
use Rattle.rv_exec.specs.declared.outcome.Step.{Step}
use Rattle.rv_exec.specs.declared.outcome.Step.TheVariants as steps

-- how many bytes a load takes
-- RISC-V Unprivileged ISA 20191213, 2.6 and 5.3, Load and Store Instructions
abbrev pub width_of : Load → ℕ
width_of Byte = 1
width_of Half = 2
width_of Word = 4
width_of Double = 8
width_of UnsignedByte = 1
width_of UnsignedHalf = 2
width_of UnsignedWord = 4

-- what a register gets of a load's number
-- RISC-V Unprivileged ISA 20191213, 2.6 and 5.3, Load and Store Instructions
abbrev pub extend_of : Load → ℕ → ℕ
extend_of Byte value = extended 7 value
extend_of Half value = extended 15 value
extend_of Word value = extended 31 value
extend_of Double value = value
extend_of UnsignedByte value = value
extend_of UnsignedHalf value = value
extend_of UnsignedWord value = value

-- what a refused access ends a step with
-- signal(7), SIGSEGV 11
abbrev pub refused_by : MemErr → Step
refused_by (refusals.Fault address) = steps.Trap 11
refused_by (refusals.Shared area) = steps.Shared area
refused_by refusals.Memory = steps.Memory
