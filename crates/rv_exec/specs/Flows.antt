-- What an instruction and an access come to, told without what a refusal is about.
use Rattle.std.specs.Prelude.{◌≡◌, ⊤, ℕ, Bool, true, false, Option, Some, None, []}
use Rattle.rv_table.specs.declared.registers.Regs.{Regs}
use Rattle.rv_table.specs.Bytes.{Accessed, Value, Fault, Shared}
use Rattle.rv_exec.specs.Execution.{Done, Goes, Calls, Traps, Touches}
use Rattle.rv_exec.specs.Writes.{Write, all_after}
use Rattle.rv_exec.specs.declared.flow.Flow.{Flow}
use Rattle.rv_exec.specs.declared.flow.Flow.TheVariants as flows
use Rattle.rv_exec.specs.declared.outcome.Step.{Step}
use Rattle.rv_exec.specs.declared.outcome.Step.TheVariants as steps

-- why an access is refused: a byte without the right ends the task's group with SIGSEGV
-- signal(7), SIGSEGV 11
abbrev pub RefusesAs : Accessed → Step → Type 0
RefusesAs (Fault address) (steps.Trap signal) = signal ≡ 11
RefusesAs (Shared area) (steps.Shared told) = told ≡ area
RefusesAs accessed steps.Memory = ⊤
RefusesAs _ _ = ⊥

-- a number is what an access comes to, or there is none; where it is exact, for that cause
-- profile
abbrev pub GivesAs : (is_exact : Bool) → (why : Step) → Accessed → Option ℕ → Type 0
GivesAs is_exact why (Value value) (Some told) = told ≡ value
GivesAs is_exact why accessed None = is_exact ≡ true → RefusesAs accessed why
GivesAs _ _ _ _ = ⊥

-- the same of an access that only tests bytes, or stores
-- profile
abbrev pub LetsAs : (is_exact : Bool) → (why : Step) → Accessed → Bool → Type 0
LetsAs is_exact why (Value value) true = ⊤
LetsAs is_exact why accessed false = is_exact ≡ true → RefusesAs accessed why
LetsAs _ _ _ _ = ⊥

-- why an instruction is refused: it traps, or touches a shared area, or memory is wanting
-- profile
abbrev pub IsCause : Done → Step → Type 0
IsCause (Traps signal) (steps.Trap told) = told ≡ signal
IsCause (Touches area) (steps.Shared told) = told ≡ area
IsCause done steps.Memory = ⊤
IsCause _ _ = ⊥

-- a flow is as the instruction does, where that changes registers alone
-- RISC-V Unprivileged ISA 20191213, 1.6
abbrev pub MovesAs : Done → (before after : Regs) → Flow → Type 0
MovesAs (Goes r []) before after flows.Next = after ≡ r
MovesAs (Goes r []) before after flows.Jump = after ≡ r
MovesAs Calls before after flows.Call = after ≡ before
MovesAs (Traps signal) before after (flows.Trap told) = (told ≡ signal) × (after ≡ before)
MovesAs done before after _ = ⊥

-- a flow is as the instruction does, to registers and to what is told of memory; what traps, calls or is refused
-- changes nothing, and is refused, where it is exact, for that cause
-- RISC-V Unprivileged ISA 20191213, 1.6
abbrev pub FlowsAs : {State : Type 0} → (Write → State → State) → (is_exact : Bool) → (why : Step) → Done
    → (before after : Regs) → (old new : State) → Flow → Type 0
FlowsAs write is_exact why (Goes r ws) before after old new flows.Next = (after ≡ r) × (new ≡ all_after write ws old)
FlowsAs write is_exact why (Goes r ws) before after old new flows.Jump = (after ≡ r) × (new ≡ all_after write ws old)
FlowsAs write is_exact why Calls before after old new flows.Call = (after ≡ before) × (new ≡ old)
FlowsAs write is_exact why (Traps signal) before after old new (flows.Trap told) =
    (told ≡ signal) × (after ≡ before) × (new ≡ old)
FlowsAs write is_exact why done before after old new flows.Refused =
    (after ≡ before) × (new ≡ old) × (is_exact ≡ true → IsCause done why)
FlowsAs write is_exact why done before after old new _ = ⊥

-- what a flow of exact accesses comes to, by why the last refused one was
-- profile
abbrev pub outcome_of : Flow → (why : Step) → Step
outcome_of flows.Next why = steps.Next
outcome_of flows.Jump why = steps.Next
outcome_of flows.Call why = steps.Call
outcome_of (flows.Trap signal) why = steps.Trap signal
outcome_of flows.Refused why = why
