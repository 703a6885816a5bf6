-- A task stands at a call where its next instruction is one.
use Rattle.std.proofs.Common.{refl, ap, sym, ◌∙◌}
use Rattle.kernel_model.specs.declared.traps.Next.TheVariants.{Calls}
use Rattle.kernel_model.specs.entries.Steps.{stands_at}
use Rattle.kernel_model.specs.machine.Instructions.{goes_on}
use Rattle.plain_steps.proofs.calls.stands_at.Goals as goal

pub returns-in-Calls-clause-stands : goal.returns-in-Calls-clause-stands
returns-in-Calls-clause-stands c = λ k same.
    c.is_call.ensures
    ∙ ap (λ r. stands_at c.args.no c.args.args.now r Calls) (c.in_ok-step.ensures.kept (ap goes_on c.in-Calls.is)).0
    ∙ sym (ap (stands_at c.args.no c.args.args.now c.args.draft.now.caller.registers)
    (c.in_ok-step.ensures.next c.args.draft.now.caller k
    (record { task = refl; registers = refl; space = refl; areas = same })
    ∙ c.in-Calls.is))

pub returns-in-Goes-clause-stands : goal.returns-in-Goes-clause-stands
returns-in-Goes-clause-stands c = λ k same.
    sym (ap (stands_at c.args.no c.args.args.now c.args.draft.now.caller.registers)
    (c.in_ok-step.ensures.next c.args.draft.now.caller k
    (record { task = refl; registers = refl; space = refl; areas = same })
    ∙ c.in-Goes.is))

pub returns-in-Traps-clause-stands : goal.returns-in-Traps-clause-stands
returns-in-Traps-clause-stands c = λ k same.
    sym (ap (stands_at c.args.no c.args.args.now c.args.draft.now.caller.registers)
    (c.in_ok-step.ensures.next c.args.draft.now.caller k
    (record { task = refl; registers = refl; space = refl; areas = same })
    ∙ c.in-Traps.is))
