-- How a run of instructions ended.
use Rattle.std.specs.Prelude.{◌≡◌, ⊤, ℕ, ◌<◌, Some}
use Rattle.rv_exec.specs.Execution.{Calls, Traps, Touches}
use Rattle.quantum.specs.declared.run.QuantumEnd.{QuantumEnd}
use Rattle.quantum.specs.declared.run.QuantumEnd.TheVariants as ends
use Rattle.quantum.specs.declared.turn.Stop.{Stop}
use Rattle.quantum.specs.declared.turn.Stop.TheVariants as stops
use Rattle.quantum.specs.Instructions.{GoingTask, next_done, ran}

-- so many instructions as the end tells lead from one state to the other
-- RISC-V Unprivileged ISA 20191213, 1.2
abbrev pub Ran : (old new : GoingTask) → QuantumEnd → Type 0
Ran old new (ends.Ended count) = ran count old ≡ Some new
Ran old new (ends.Call count) = ran count old ≡ Some new
Ran old new (ends.Trap count signal) = ran count old ≡ Some new
Ran old new (ends.Shared count area) = ran count old ≡ Some new
Ran old new ends.Memory = ⊤

-- a run that isn't stopped has all the instructions that it may have, and any other has fewer
-- profile
abbrev pub Few : (most : ℕ) → QuantumEnd → Type 0
Few most (ends.Ended count) = count ≡ most
Few most (ends.Call count) = count < most
Few most (ends.Trap count signal) = count < most
Few most (ends.Shared count area) = count < most
Few most ends.Memory = ⊤

-- it is stopped by what the next instruction does: that calls the system, traps, or touches a shared area not handed in
-- RISC-V Unprivileged ISA 20191213, 1.6, Exceptions, Traps, and Interrupts
abbrev pub Stopped : GoingTask → QuantumEnd → Type 0
Stopped g (ends.Ended count) = ⊤
Stopped g (ends.Call count) = next_done g ≡ Calls
Stopped g (ends.Trap count signal) = next_done g ≡ Traps signal
Stopped g (ends.Shared count area) = next_done g ≡ Touches area
Stopped g ends.Memory = ⊤

-- where memory was wanting, whole instructions lead from one state to the other, and fewer than there might have been
-- profile
abbrev pub LacksMemory : (old new : GoingTask) → (most : ℕ) → QuantumEnd → Type 0
LacksMemory old new most (ends.Ended count) = ⊤
LacksMemory old new most (ends.Call count) = ⊤
LacksMemory old new most (ends.Trap count signal) = ⊤
LacksMemory old new most (ends.Shared count area) = ⊤
LacksMemory old new most ends.Memory = (n : ℕ) × (n < most) × (ran n old ≡ Some new)

-- how a run ends by what stops it, after so many instructions
-- profile
abbrev pub end_of : (count : ℕ) → Stop → QuantumEnd
end_of count stops.Call = ends.Call count
end_of count (stops.Trap signal) = ends.Trap count signal
end_of count (stops.Shared area) = ends.Shared count area
end_of count stops.Memory = ends.Memory
