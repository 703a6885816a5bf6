-- A flow that changes registers alone, over memory of which the same is told.
use Rattle.std.proofs.Common.{◌≡◌, Bool, [], ◌∷◌}
use Rattle.rv_table.specs.declared.registers.Regs.{Regs}
use Rattle.rv_exec.specs.Execution.{Done, Goes, Calls, Traps, Touches}
use Rattle.rv_exec.specs.Flows.{MovesAs, FlowsAs}
use Rattle.rv_exec.specs.Writes.{Write}
use Rattle.rv_exec.specs.declared.flow.Flow.{Flow}
use Rattle.rv_exec.specs.declared.flow.Flow.TheVariants as flows
use Rattle.rv_exec.specs.declared.outcome.Step.{Step}

pub moved : {State : Type 0} → (write : Write → State → State) → (is_exact : Bool) → (why : Step) → (done : Done)
    → (before after : Regs) → (old new : State) → (flow : Flow) → MovesAs done before after flow → new ≡ old
    → FlowsAs write is_exact why done before after old new flow
moved write is_exact why (Goes r []) before after old new flows.Next h same = (h, same)
moved write is_exact why (Goes r []) before after old new flows.Jump h same = (h, same)
moved write is_exact why (Goes r []) before after old new flows.Call h same = elim h [ ]
moved write is_exact why (Goes r []) before after old new (flows.Trap told) h same = elim h [ ]
moved write is_exact why (Goes r []) before after old new flows.Refused h same = elim h [ ]
moved write is_exact why (Goes r (w ∷ ws)) before after old new flows.Next h same = elim h [ ]
moved write is_exact why (Goes r (w ∷ ws)) before after old new flows.Jump h same = elim h [ ]
moved write is_exact why (Goes r (w ∷ ws)) before after old new flows.Call h same = elim h [ ]
moved write is_exact why (Goes r (w ∷ ws)) before after old new (flows.Trap told) h same = elim h [ ]
moved write is_exact why (Goes r (w ∷ ws)) before after old new flows.Refused h same = elim h [ ]
moved write is_exact why Calls before after old new flows.Next h same = elim h [ ]
moved write is_exact why Calls before after old new flows.Jump h same = elim h [ ]
moved write is_exact why Calls before after old new flows.Call h same = (h, same)
moved write is_exact why Calls before after old new (flows.Trap told) h same = elim h [ ]
moved write is_exact why Calls before after old new flows.Refused h same = elim h [ ]
moved write is_exact why (Traps signal) before after old new flows.Next h same = elim h [ ]
moved write is_exact why (Traps signal) before after old new flows.Jump h same = elim h [ ]
moved write is_exact why (Traps signal) before after old new flows.Call h same = elim h [ ]
moved write is_exact why (Traps signal) before after old new (flows.Trap told) h same = (h.0, h.1, same)
moved write is_exact why (Traps signal) before after old new flows.Refused h same = elim h [ ]
moved write is_exact why (Touches area) before after old new flows.Next h same = elim h [ ]
moved write is_exact why (Touches area) before after old new flows.Jump h same = elim h [ ]
moved write is_exact why (Touches area) before after old new flows.Call h same = elim h [ ]
moved write is_exact why (Touches area) before after old new (flows.Trap told) h same = elim h [ ]
moved write is_exact why (Touches area) before after old new flows.Refused h same = elim h [ ]
