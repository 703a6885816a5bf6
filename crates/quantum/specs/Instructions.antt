-- A task's instructions one after another.
use Rattle.std.specs.Prelude.{ℕ, Option}
use Rattle.rv_exec.specs.Courses as courses
use Rattle.rv_exec.specs.Execution.{Done, exec}
use Rattle.quantum.specs.Acting.{Acting, acting_after_write, memory_of}

-- a task with its registers, over what it reaches
-- profile
abbrev pub GoingTask : Type 0
GoingTask = courses.Going Acting

-- what the next instruction does
-- RISC-V Unprivileged ISA 20191213, 1.2
abbrev pub next_done : GoingTask → Done
next_done g = exec (memory_of g.acting) g.registers

-- the task after so many instructions, none of which traps, calls or touches a shared area that is not handed in
-- the same
abbrev pub ran : ℕ → GoingTask → Option GoingTask
ran n g = courses.after_instructions memory_of acting_after_write n g
