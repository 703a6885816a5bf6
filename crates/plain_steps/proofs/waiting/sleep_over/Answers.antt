-- A task sleeps whose next instruction makes a call that puts it to sleep.
use Rattle.std.proofs.Common.{refl, ap, ◌∙◌}
use Rattle.kernel_model.specs.machine.Instructions.{goes_on}
use Rattle.plain_steps.proofs.RunLemmas.{same_task}
use Rattle.plain_steps.proofs.WaitLemmas.{sleep_does, sleep_is}
use Rattle.plain_steps.proofs.waiting.sleep_over.Goals as goal

pub returns-in-Calls : goal.returns-in-Calls
returns-in-Calls c =
    sleep_does c.args.kernel.now c.sleep_in.new.kernel c.args.draft.now.caller
    (record c.args.draft.now.caller { registers = c.step.new.registers; space = c.step.new.space }) c.sleep_in.result
    (c.in_ok-step.ensures.next c.args.draft.now.caller c.args.kernel.now
    (record { task = refl; registers = refl; space = refl; areas = c.requires.areas })
    ∙ c.in-Calls.is)
    (same_task c.args.draft.now.caller c.step.new.registers c.step.new.space
    (c.in_ok-step.ensures.kept (ap goes_on c.in-Calls.is)).0
    (c.in_ok-step.ensures.kept (ap goes_on c.in-Calls.is)).1) c.sleep_in.ensures

pub returns-in-Goes : goal.returns-in-Goes
returns-in-Goes c = (
  sleep_is c.args.draft.now.caller c.args.kernel.now _
      (c.in_ok-step.ensures.next c.args.draft.now.caller c.args.kernel.now
      (record { task = refl; registers = refl; space = refl; areas = c.requires.areas })
      ∙ c.in-Goes.is),
  refl,
)

pub returns-in-Traps : goal.returns-in-Traps
returns-in-Traps c = (
  sleep_is c.args.draft.now.caller c.args.kernel.now _
      (c.in_ok-step.ensures.next c.args.draft.now.caller c.args.kernel.now
      (record { task = refl; registers = refl; space = refl; areas = c.requires.areas })
      ∙ c.in-Traps.is),
  refl,
)
