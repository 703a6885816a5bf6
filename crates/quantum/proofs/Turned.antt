-- Turns of a run, one behind another.
use Rattle.std.proofs.Common.{◌≡◌, ℕ, ◌+◌, ◌≤◌, Bool, true, false, Option, Some, None, refl, ap, sym, ◌∙◌, subst, arith}
use Rattle.std.specs.Prelude.{option_and_then}
use Rattle.std.proofs.lemmas.Bool.{false≢true}
use Rattle.std.proofs.lemmas.Option.{none-some}
use Rattle.rv_table.specs.declared.registers.Regs.{Regs}
use Rattle.rv_exec.specs.Courses as courses
use Rattle.rv_exec.specs.Execution.{Done, Goes, Calls, Traps, Touches, StepsAs, exec}
use Rattle.rv_exec.specs.declared.outcome.Step.{Step}
use Rattle.rv_exec.specs.declared.outcome.Step.TheVariants as steps
use Rattle.rv_exec.proofs.Courses.{ran_add, ran_still, ran_suc, ran_zero}
use Rattle.quantum.specs.Acting.{Acting, acting_after_write, memory_of}
use Rattle.quantum.specs.Ends.{LacksMemory, Ran, end_of}
use Rattle.quantum.specs.Instructions.{GoingTask, ran}
use Rattle.quantum.specs.Turns.{TurnsTo}
use Rattle.quantum.specs.declared.turn.Stop.{Stop}
use Rattle.quantum.specs.declared.turn.Stop.TheVariants as stops

-- instructions behind others, so many in all
pub ran_then : (n m k : ℕ) (start between end : GoingTask) → n + m ≡ k → ran n start ≡ Some between
    → ran m between ≡ Some end → ran k start ≡ Some end
ran_then n m k start between end is first then_ =
    ap (λ j. ran j start) (sym is) ∙ ran_add memory_of acting_after_write n m start between end first then_

-- none
pub still : (k : ℕ) (old new : Acting) (before after : Regs) → k ≡ 0 → after ≡ before → new ≡ old
    → ran k (courses.going old before) ≡ Some (courses.going new after)
still k old new before after is same told =
    ran_still memory_of acting_after_write k before old new is told
    ∙ ap (λ (r : Regs). Some (courses.going new r)) (sym same)

-- one, as a step did it
went : (done : Done) (old new : Acting) (before after : Regs)
    → StepsAs acting_after_write done before after old new steps.Next
    → courses.went_by acting_after_write old done ≡ Some (courses.going new after)
went (Goes r ws) old new before after h = λ i. Some (courses.going (sym h.1 i) (sym h.0 i))
went Calls old new before after h = absurd h
went (Traps signal) old new before after h = absurd h
went (Touches area) old new before after h = absurd h

pub stepped : (k : ℕ) (old new : Acting) (before after : Regs) (step : Step) → k ≡ 1 → step ≡ steps.Next
    → StepsAs acting_after_write (exec (memory_of old) before) before after old new step
    → ran k (courses.going old before)
    ≡ Some (courses.going new after)
stepped k old new before after step is next did =
    ap (λ j. ran j (courses.going old before)) is
    ∙ ran_suc memory_of acting_after_write 0 (courses.going old before)
    ∙ ap (option_and_then (courses.one_instruction_more memory_of acting_after_write))
    (ran_zero memory_of acting_after_write (courses.going old before))
    ∙ went (exec (memory_of old) before) old new before after
    (subst (λ (s : Step). StepsAs acting_after_write (exec (memory_of old) before) before after old new s) next did)

-- a step that did no instruction changed nothing
pub unmoved : (done : Done) (old new : Acting) (before after : Regs) (step : Step)
    → StepsAs acting_after_write done before after old new step → (step ≡ steps.Next → ⊥)
    → (after ≡ before) × (new ≡ old)
unmoved done old new before after steps.Next h apart = absurd (apart refl)
unmoved (Goes r ws) old new before after steps.Memory h apart = h
unmoved Calls old new before after steps.Memory h apart = h
unmoved (Traps signal) old new before after steps.Memory h apart = h
unmoved (Touches area) old new before after steps.Memory h apart = h
unmoved (Goes r ws) old new before after steps.Call h apart = absurd h
unmoved Calls old new before after steps.Call h apart = h
unmoved (Traps signal) old new before after steps.Call h apart = absurd h
unmoved (Touches area) old new before after steps.Call h apart = absurd h
unmoved (Goes r ws) old new before after (steps.Trap told) h apart = absurd h
unmoved Calls old new before after (steps.Trap told) h apart = absurd h
unmoved (Traps signal) old new before after (steps.Trap told) h apart = (h.1, h.2)
unmoved (Touches area) old new before after (steps.Trap told) h apart = absurd h
unmoved (Goes r ws) old new before after (steps.Shared told) h apart = absurd h
unmoved Calls old new before after (steps.Shared told) h apart = absurd h
unmoved (Traps signal) old new before after (steps.Shared told) h apart = absurd h
unmoved (Touches area) old new before after (steps.Shared told) h apart = (h.1, h.2)

-- whether a step did an instruction
abbrev is_next : Step → Bool
is_next steps.Next = true
is_next steps.Call = false
is_next (steps.Trap signal) = false
is_next (steps.Shared area) = false
is_next steps.Memory = false

pub next_apart : {step other : Step} → step ≡ other → is_next other ≡ false → step ≡ steps.Next → ⊥
next_apart is other next = false≢true (sym other ∙ ap is_next (sym is ∙ next))

pub halted : (k : ℕ) (old new : Acting) (before after : Regs) (step : Step) → k ≡ 0
    → StepsAs acting_after_write (exec (memory_of old) before) before after old new step
    → (step ≡ steps.Next → ⊥) → ran k (courses.going old before) ≡ Some (courses.going new after)
halted k old new before after step is did apart =
    let same = unmoved (exec (memory_of old) before) old new before after step did apart in
    still k old new before after is same.0 same.1

-- a run that something stops ends rightly
pub ran_stopped : (stop : Stop) (n m count : ℕ) (start between end : GoingTask) → n + m ≡ count
    → ran n start ≡ Some between
    → ran m between ≡ Some end
    → Ran start end (end_of count stop)
ran_stopped stops.Call n m count start between end is first then_ = ran_then n m count start between end is first then_
ran_stopped (stops.Trap signal) n m count start between end is first then_ =
    ran_then n m count start between end is first then_
ran_stopped (stops.Shared area) n m count start between end is first then_ =
    ran_then n m count start between end is first then_
ran_stopped stops.Memory n m count start between end is first then_ = tt

pub lacks_stopped : (stop : Stop) (n m count most left : ℕ) (start between end : GoingTask) → n + m ≡ count
    → n + left ≡ most → ran n start ≡ Some between → ran m between ≡ Some end
    → TurnsTo end m left (Some stop) → LacksMemory start end most (end_of count stop)
lacks_stopped stops.Call n m count most left start between end is rest first then_ turned = tt
lacks_stopped (stops.Trap signal) n m count most left start between end is rest first then_ turned = tt
lacks_stopped (stops.Shared area) n m count most left start between end is rest first then_ turned = tt
lacks_stopped stops.Memory n m count most left start between end is rest first then_ turned =
    (count, omega (arith, is, rest, turned), ran_then n m count start between end is first then_)

-- a turn that nothing stopped has run at least one instruction, and no more than it might
pub ran_on : (after : GoingTask) (count most : ℕ) (stop : Option Stop) → TurnsTo after count most stop → (stop ≡ None)
    → (1 ≤ count) × (count ≤ most)
ran_on after count most None turned is = turned
ran_on after count most (Some stop) turned is = absurd (none-some stop (sym is))
