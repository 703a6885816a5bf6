-- An instruction runs with the areas that it touches where it goes on so, and else it is no step.
use Rattle.std.proofs.Common.{refl, ap, ◌∙◌}
use Rattle.std.specs.FinMap as map
use Rattle.kernel_model.specs.machine.Instructions.{goes_on}
use Rattle.plain_steps.proofs.RunLemmas.{no_step, step_done}
use Rattle.plain_steps.proofs.entries.step_over.Goals as goal

pub returns-in-Goes : goal.returns-in-Goes
returns-in-Goes c =
    step_done c.args.draft.now.caller c.args.kernel.now c.put_memory.new.kernel c.step.new.registers c.step.new.space
    c.step.new.areas c.replace.new.self
    (c.replace.ensures ∙ ap (λ n. map.insert c.args.kernel.now.registers n c.step.new.registers) c.from.ensures)
    c.put_memory.ensures
    (c.in_ok-step.ensures.goes c.in-Goes.is c.args.draft.now.caller c.args.kernel.now
    (record { task = refl; registers = refl; space = refl; areas = c.requires.areas }))

pub returns-in-Calls : goal.returns-in-Calls
returns-in-Calls c = (
  no_step c.args.draft.now.caller c.args.kernel.now c.in_ok-step.field-0
      (c.in_ok-step.ensures.next c.args.draft.now.caller c.args.kernel.now
      (record { task = refl; registers = refl; space = refl; areas = c.requires.areas }))
      (ap goes_on c.in-Calls.is) c.requires.alone,
  refl,
)

pub returns-in-Traps : goal.returns-in-Traps
returns-in-Traps c = (
  no_step c.args.draft.now.caller c.args.kernel.now c.in_ok-step.field-0
      (c.in_ok-step.ensures.next c.args.draft.now.caller c.args.kernel.now
      (record { task = refl; registers = refl; space = refl; areas = c.requires.areas }))
      (ap goes_on c.in-Traps.is) c.requires.alone,
  refl,
)
