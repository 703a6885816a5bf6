-- A group ends by the signal with which its task's next instruction traps, and by no other.
use Rattle.std.proofs.Common.{refl, ap, ◌∙◌}
use Rattle.kernel_model.specs.machine.Instructions.{goes_on}
use Rattle.plain_steps.proofs.RunLemmas.{end_is, ends, ends_not, same_task}
use Rattle.plain_steps.proofs.entries.end_over.Goals as goal

pub returns-then-trap-signal : goal.returns-then-trap-signal
returns-then-trap-signal c = (
  ends_not c.args.draft.now.caller c.args.kernel.now c.in-Traps.trap c.args.signal
      (c.in_ok-trap.ensures.next c.args.draft.now.caller c.args.kernel.now
      (record { task = refl; registers = refl; space = refl; areas = c.requires.areas })
      ∙ c.in-Traps.is) c.if-trap-signal.true,
  refl,
)

pub returns-else-trap-signal : goal.returns-else-trap-signal
returns-else-trap-signal c =
    ends c.args.kernel.now c.kill.new.kernel c.args.draft.now.caller
    (record c.args.draft.now.caller { registers = c.step.new.registers; space = c.step.new.space })
    c.in-Traps.trap c.args.signal c.kill.result
    (c.in_ok-trap.ensures.next c.args.draft.now.caller c.args.kernel.now
    (record { task = refl; registers = refl; space = refl; areas = c.requires.areas })
    ∙ c.in-Traps.is) c.if-trap-signal.false
    (same_task c.args.draft.now.caller c.step.new.registers c.step.new.space
    (c.in_ok-trap.ensures.kept (ap goes_on c.in-Traps.is)).0
    (c.in_ok-trap.ensures.kept (ap goes_on c.in-Traps.is)).1) c.kill.ensures

pub returns-in-Goes : goal.returns-in-Goes
returns-in-Goes c = (
  end_is c.args.draft.now.caller c.args.kernel.now _
      (c.in_ok-trap.ensures.next c.args.draft.now.caller c.args.kernel.now
      (record { task = refl; registers = refl; space = refl; areas = c.requires.areas })
      ∙ c.in-Goes.is) c.args.signal,
  refl,
)

pub returns-in-Calls : goal.returns-in-Calls
returns-in-Calls c = (
  end_is c.args.draft.now.caller c.args.kernel.now _
      (c.in_ok-trap.ensures.next c.args.draft.now.caller c.args.kernel.now
      (record { task = refl; registers = refl; space = refl; areas = c.requires.areas })
      ∙ c.in-Calls.is) c.args.signal,
  refl,
)
