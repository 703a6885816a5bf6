-- An entry does what it does by how its task stands to the futex list.
use Rattle.std.proofs.Common.{sym, ◌∙◌}
use Rattle.std.specs.Prelude.{Ok}
use Rattle.kernel_model.specs.entries.Waiting.{Awake, Woken}
use Rattle.plain_steps.proofs.RowLemmas.{awake_so, row_waiting, woken_so}
use Rattle.plain_steps.proofs.step.enter.Goals as goal

pub returns-then-is_woken : goal.returns-then-is_woken
returns-then-is_woken c =
    row_waiting c.args.kernel.now c.woken.new.kernel c.args.entry.now c.args.caller Woken (Ok c.woken.result)
    (woken_so c.args.kernel.now.sleepers c.args.caller.task (sym c.is_asleep.ensures.asleep
    ∙ c.if-is_asleep.false) (sym c.is_woken.ensures.woken ∙ c.if-is_woken.true)) c.woken.ensures

pub returns : goal.returns
returns c =
    row_waiting c.args.kernel.now c.awake.new.kernel c.args.entry.now c.args.caller Awake c.awake.result
    (awake_so c.args.kernel.now.sleepers c.args.caller.task (sym c.is_asleep.ensures.asleep
    ∙ c.if-is_asleep.false) (sym c.is_woken.ensures.woken ∙ c.if-is_woken.false)) c.awake.ensures
