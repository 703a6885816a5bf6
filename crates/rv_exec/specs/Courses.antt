-- Instructions one after another.
use Rattle.std.specs.Prelude.{◌≡◌, ⊤, ℕ, zero, suc, ◌<◌, Option, Some, None, option_and_then}
use Rattle.rv_table.specs.declared.registers.Regs.{Regs}
use Rattle.rv_table.specs.Bytes.{SeenMemory}
use Rattle.rv_exec.specs.Execution.{Done, Goes, Calls, Traps, Touches, exec}
use Rattle.rv_exec.specs.Writes.{Write, all_after}
use Rattle.rv_exec.specs.declared.flow.Flow.{Flow}
use Rattle.rv_exec.specs.declared.flow.Flow.TheVariants as flows

-- a task with its registers, over what is told of its memory
-- profile
pub record Going (State : Type 0) : Type 0 where
  pub acting : State
  pub registers : Regs

abbrev pub going : {State : Type 0} → State → Regs → Going State
going acting registers = record { acting = acting; registers = registers }

-- a task after an instruction that neither traps nor calls nor touches an area that is not handed in
-- RISC-V Unprivileged ISA 20191213, 1.2
abbrev pub went_by : {State : Type 0} → (Write → State → State) → State → Done → Option (Going State)
went_by write acting (Goes r ws) = Some (going (all_after write ws acting) r)
went_by write acting Calls = None
went_by write acting (Traps signal) = None
went_by write acting (Touches area) = None

abbrev pub one_instruction_more : {State : Type 0} → (State → SeenMemory) → (Write → State → State) → Going State
    → Option (Going State)
one_instruction_more seen write g = went_by write g.acting (exec (seen g.acting) g.registers)

-- after so many instructions, none of which traps, calls or touches an area that is not handed in
-- the same
unfoldable pub after_instructions : {State : Type 0} → (State → SeenMemory) → (Write → State → State) → ℕ → Going State
    → Option (Going State)
after_instructions seen write zero g = Some g
after_instructions seen write (suc n) g = option_and_then (one_instruction_more seen write)
    (after_instructions seen write n g)

-- a run of fewer than so many instructions ends where the next one calls, traps or is refused; of another nothing is
-- told here. None ends by a jump
-- profile
abbrev pub EndsBy : (done : Done) → (count most : ℕ) → Flow → Type 0
EndsBy done count most flows.Next = ⊤
EndsBy done count most flows.Jump = ⊥
EndsBy done count most flows.Call = (count < most) × (done ≡ Calls)
EndsBy done count most (flows.Trap signal) = (count < most) × (done ≡ Traps signal)
EndsBy done count most flows.Refused = count < most
