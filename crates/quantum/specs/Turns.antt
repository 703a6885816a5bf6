-- A turn of a run: some instructions, and what stopped it, if something did.
use Rattle.std.specs.Prelude.{◌≡◌, ℕ, ◌<◌, ◌≤◌, Option, Some, None}
use Rattle.rv_exec.specs.Execution.{Calls, Traps, Touches}
use Rattle.mm_space.specs.Spaces.{reach}
use Rattle.quantum.specs.declared.acting.Acting.{Acting as TaskMemory}
use Rattle.quantum.specs.declared.turn.Stop.{Stop}
use Rattle.quantum.specs.declared.turn.Stop.TheVariants as stops
use Rattle.quantum.specs.Acting.{Acting, acting_on}
use Rattle.quantum.specs.Instructions.{GoingTask, next_done}

-- a task, and what it reaches, by what it has in hand
-- profile
abbrev pub acting_of : TaskMemory → Acting
acting_of memory = acting_on memory.task (reach memory.space memory.handed)

-- a turn of so many instructions is stopped, or has run at least one
-- profile
abbrev pub TurnsTo : (after : GoingTask) → (count most : ℕ) → Option Stop → Type 0
TurnsTo after count most None = (1 ≤ count) × (count ≤ most)
TurnsTo after count most (Some stops.Call) = (count < most) × (next_done after ≡ Calls)
TurnsTo after count most (Some (stops.Trap signal)) = (count < most) × (next_done after ≡ Traps signal)
TurnsTo after count most (Some (stops.Shared area)) = (count < most) × (next_done after ≡ Touches area)
TurnsTo after count most (Some stops.Memory) = count < most
