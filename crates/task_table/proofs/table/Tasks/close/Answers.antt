use Rattle.task_table.specs.Ends.{group_ended}
use Rattle.task_table.specs.Table.{TaskTable}
use Rattle.task_table.proofs.Keeping.{sound_of, kept_group_ended}
use Rattle.task_table.proofs.table.Tasks.close.Goals as goal

pub invariant_of-self : goal.invariant_of-self
invariant_of-self c =
    let old : TaskTable =
    record { tasks = c.self.inside.tasks; groups = c.self.inside.groups; last = c.self.inside.last } in
    sound_of (group_ended old c.args.group c.args.status) _ _ _ _ c.end_tasks.ensures.tasks
    c.close_group.ensures.groups c.end_tasks.ensures.live c.close_group.ensures.children
    (kept_group_ended old c.args.group c.args.status c.self.invariant.kept)
