-- A step by exact accesses, by what their flow comes to.
use Rattle.std.proofs.Common.{◌≢◌, Bool, true, false, refl, ap}
use Rattle.std.proofs.lemmas.Bool.{false≢true}
use Rattle.rv_table.specs.declared.registers.Regs.{Regs}
use Rattle.rv_exec.specs.Execution.{Done, Goes, Calls, Traps, Touches, StepsAs}
use Rattle.rv_exec.specs.Flows.{FlowsAs, outcome_of}
use Rattle.rv_exec.specs.Writes.{Write}
use Rattle.rv_exec.specs.declared.flow.Flow.{Flow}
use Rattle.rv_exec.specs.declared.flow.Flow.TheVariants as flows
use Rattle.rv_exec.specs.declared.outcome.Step.{Step}
use Rattle.rv_exec.specs.declared.outcome.Step.TheVariants as steps

pub step_done : {State : Type 0} → (write : Write → State → State) → (why : Step) → (done : Done)
    → (before after : Regs) → (old new : State) → (flow : Flow)
    → FlowsAs write true why done before after old new flow
    → StepsAs write done before after old new (outcome_of flow why)
step_done write why (Goes r ws) before after old new flows.Next h = h
step_done write why (Goes r ws) before after old new flows.Jump h = h
step_done write why (Goes r ws) before after old new flows.Call h = elim h [ ]
step_done write why (Goes r ws) before after old new (flows.Trap told) h = elim h [ ]
step_done write steps.Next (Goes r ws) before after old new flows.Refused h = elim (h.2 refl) [ ]
step_done write steps.Call (Goes r ws) before after old new flows.Refused h = elim (h.2 refl) [ ]
step_done write (steps.Trap cause) (Goes r ws) before after old new flows.Refused h = elim (h.2 refl) [ ]
step_done write (steps.Shared cause) (Goes r ws) before after old new flows.Refused h = elim (h.2 refl) [ ]
step_done write steps.Memory (Goes r ws) before after old new flows.Refused h = (h.0, h.1)
step_done write why Calls before after old new flows.Next h = elim h [ ]
step_done write why Calls before after old new flows.Jump h = elim h [ ]
step_done write why Calls before after old new flows.Call h = h
step_done write why Calls before after old new (flows.Trap told) h = elim h [ ]
step_done write steps.Next Calls before after old new flows.Refused h = elim (h.2 refl) [ ]
step_done write steps.Call Calls before after old new flows.Refused h = elim (h.2 refl) [ ]
step_done write (steps.Trap cause) Calls before after old new flows.Refused h = elim (h.2 refl) [ ]
step_done write (steps.Shared cause) Calls before after old new flows.Refused h = elim (h.2 refl) [ ]
step_done write steps.Memory Calls before after old new flows.Refused h = (h.0, h.1)
step_done write why (Traps signal) before after old new flows.Next h = elim h [ ]
step_done write why (Traps signal) before after old new flows.Jump h = elim h [ ]
step_done write why (Traps signal) before after old new flows.Call h = elim h [ ]
step_done write why (Traps signal) before after old new (flows.Trap told) h = h
step_done write steps.Next (Traps signal) before after old new flows.Refused h = elim (h.2 refl) [ ]
step_done write steps.Call (Traps signal) before after old new flows.Refused h = elim (h.2 refl) [ ]
step_done write (steps.Trap cause) (Traps signal) before after old new flows.Refused h = (h.2 refl, h.0, h.1)
step_done write (steps.Shared cause) (Traps signal) before after old new flows.Refused h = elim (h.2 refl) [ ]
step_done write steps.Memory (Traps signal) before after old new flows.Refused h = (h.0, h.1)
step_done write why (Touches area) before after old new flows.Next h = elim h [ ]
step_done write why (Touches area) before after old new flows.Jump h = elim h [ ]
step_done write why (Touches area) before after old new flows.Call h = elim h [ ]
step_done write why (Touches area) before after old new (flows.Trap told) h = elim h [ ]
step_done write steps.Next (Touches area) before after old new flows.Refused h = elim (h.2 refl) [ ]
step_done write steps.Call (Touches area) before after old new flows.Refused h = elim (h.2 refl) [ ]
step_done write (steps.Trap cause) (Touches area) before after old new flows.Refused h = elim (h.2 refl) [ ]
step_done write (steps.Shared cause) (Touches area) before after old new flows.Refused h = (h.2 refl, h.0, h.1)
step_done write steps.Memory (Touches area) before after old new flows.Refused h = (h.0, h.1)

-- an outcome is want of memory
abbrev is_want : Step → Bool
is_want steps.Next = false
is_want steps.Call = false
is_want (steps.Trap signal) = false
is_want (steps.Shared area) = false
is_want steps.Memory = true

pub step_lean : (flow : Flow) → (why : Step) → why ≢ steps.Memory → outcome_of flow why ≢ steps.Memory
step_lean flows.Next why h = λ e. false≢true (ap is_want e)
step_lean flows.Jump why h = λ e. false≢true (ap is_want e)
step_lean flows.Call why h = λ e. false≢true (ap is_want e)
step_lean (flows.Trap told) why h = λ e. false≢true (ap is_want e)
step_lean flows.Refused why h = h
