-- What the next instruction of a task does, in the words of the kernel.
use Rattle.std.specs.Prelude.{◌≡◌, ℕ, ◌<◌, Bool, true, false}
use Rattle.rv_table.specs.declared.registers.Regs.{Regs}
use Rattle.rv_exec.specs.Execution.{Done, exec}
use Rattle.rv_exec.specs.Execution as done
use Rattle.quantum.specs.Acting.{Acting, memory_of}
use Rattle.kernel_model.specs.declared.traps.Next.{Next}
use Rattle.kernel_model.specs.declared.traps.Next.TheVariants.{Goes, Calls, Traps, Touches}

-- what an instruction's work is to its task
-- RISC-V Unprivileged ISA 20191213, 1.6, Exceptions, Traps, and Interrupts; shared areas: profile
abbrev pub next_by : Done → Next
next_by (done.Goes r ws) = Goes
next_by done.Calls = Calls
next_by (done.Traps signal) = Traps signal
next_by (done.Touches area) = Touches area

-- what the next instruction of a task does, over what it reaches
-- RISC-V Unprivileged ISA 20191213, 1.2
abbrev pub next_of : Acting → Regs → Next
next_of a r = next_by (exec (memory_of a) r)

-- an instruction neither traps nor calls, and touches no shared area that is not in hand
-- RISC-V Unprivileged ISA 20191213, 1.6, Exceptions, Traps, and Interrupts
abbrev pub goes_on : Next → Bool
goes_on Goes = true
goes_on Calls = false
goes_on (Traps signal) = false
goes_on (Touches area) = false

-- an instruction touches a shared area that is not in hand
-- mmap(2), MAP_SHARED; profile
abbrev pub touches_area : Next → Bool
touches_area Goes = false
touches_area Calls = false
touches_area (Traps signal) = false
touches_area (Touches area) = true

-- so many instructions ran, and then the next one does this: all that were asked for ran, or the next calls, traps or
-- touches a shared area that is not in hand
-- RISC-V Unprivileged ISA 20191213, 1.6, Exceptions, Traps, and Interrupts
abbrev pub StopsAt : (most count : ℕ) → (told next : Next) → Type 0
StopsAt most count Goes next = count ≡ most
StopsAt most count Calls next = (count < most) × (next ≡ Calls)
StopsAt most count (Traps signal) next = (count < most) × (next ≡ Traps signal)
StopsAt most count (Touches area) next = (count < most) × (next ≡ Touches area)
