use Rattle.std.proofs.Common.{refl, ap, ◌∙◌}
use Rattle.task_table.specs.Ends.{ended_where, is_other_member, others_ended}
use Rattle.task_table.specs.Table.{TaskTable}
use Rattle.task_table.proofs.Keeping.{sound_of, kept_others_ended}
use Rattle.task_table.proofs.table.Tasks.end_others.Goals as goal

pub invariant_of-self : goal.invariant_of-self
invariant_of-self c =
    let old : TaskTable =
    record { tasks = c.self.inside.tasks; groups = c.self.inside.groups; last = c.self.inside.last } in
    sound_of (others_ended old c.args.task) _ _ _ _
    (c.end_tasks.ensures.tasks
    ∙ ap (λ g. ended_where (is_other_member g c.args.task) c.self.inside.tasks) c.group_of-group.ensures)
    refl c.end_tasks.ensures.live c.self.invariant.children_are
    (kept_others_ended old c.args.task c.self.invariant.kept)
