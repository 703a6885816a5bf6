use Rattle.std.proofs.Common.{ap, sym, subst, ◌∙◌, not, ◌==◌, filter}
use Rattle.std.specs.List.Sorted.{IsStrictlyIncreasing}
use Rattle.task_table.specs.Table.{live_numbers}
use Rattle.task_table.proofs.Ascending.{where_ascends}
use Rattle.task_table.proofs.Exiting.{changed_itself, live_after_exit}
use Rattle.task_table.proofs.exits.end_one.Goals as goal

pub take_out-requires : goal.take_out-requires
take_out-requires c = subst IsStrictlyIncreasing (sym c.requires) (where_ascends (λ x. x.live) c.args.tasks.now)

pub returns-clause-tasks : goal.returns-clause-tasks
returns-clause-tasks c = c.end_itself.ensures ∙ changed_itself c.args.tasks.now c.args.task

pub returns-clause-live : goal.returns-clause-live
returns-clause-live c =
    c.take_out.ensures
    ∙ ap (filter (λ n. not (n == c.args.task))) c.requires
    ∙ live_after_exit c.args.tasks.now c.args.task
    ∙ sym (ap live_numbers (c.end_itself.ensures ∙ changed_itself c.args.tasks.now c.args.task))
