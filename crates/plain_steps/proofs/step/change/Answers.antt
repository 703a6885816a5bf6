-- An entry does what an entry of its live task does.
use Rattle.std.proofs.Common.{◌∙◌}
use Rattle.plain_steps.proofs.RowLemmas.{entry_found}
use Rattle.plain_steps.proofs.step.change.Goals as goal

pub returns : goal.returns
returns c =
    entry_found c.args.kernel.now c.caller.new.kernel c.enter.new.kernel c.args.entry.now c.task-number.result
    c.in-Some.caller c.enter.result c.caller.ensures.kept c.task-number.ensures
    (c.in_ok-caller.ensures.caller ∙ c.in-Some.is) c.enter.ensures
