use Rattle.std.proofs.Common.{ap, sym, ◌∙◌}
use Rattle.task_table.specs.Entries.{passes}
use Rattle.task_table.specs.Table.{has_parent}
use Rattle.task_table.proofs.Waiting.{orphan_without_parent}
use Rattle.task_table.proofs.reaps.orphan_of.Goals as goal

pub returns-clause-stays : goal.returns-clause-stays
returns-clause-stays c =
    sym (ap (λ groups. passes has_parent groups c.args.number) c.orphan.ensures
    ∙ orphan_without_parent c.args.groups.now c.args.number)
