use Rattle.std.proofs.Common.{refl, ap, sym, ◌∙◌}
use Rattle.task_table.specs.Ends.{ended_where, groups_closed, is_itself}
use Rattle.task_table.specs.Table.{group_of}
use Rattle.task_table.specs.Table.{TaskTable}
use Rattle.task_table.proofs.Keeping.{sound_of, kept_exited, kept_last_exited}
use Rattle.task_table.proofs.table.Tasks.leave.Goals as goal

pub invariant_of-self : goal.invariant_of-self
invariant_of-self c =
    let old : TaskTable =
    record { tasks = c.self.inside.tasks; groups = c.self.inside.groups; last = c.self.inside.last } in
    sound_of (record {
      tasks = ended_where (is_itself c.args.task) old.tasks;
      groups = groups_closed old.groups (group_of old.tasks c.args.task) c.args.status;
      last = old.last;
    }) _ _ _ _
    c.end_one.ensures.tasks
    (c.close_group.ensures.groups
    ∙ ap (λ g. groups_closed c.self.inside.groups g c.args.status) c.group_of-group.ensures)
    c.end_one.ensures.live c.close_group.ensures.children
    (kept_last_exited old c.args.task c.args.status (sym c.is_last_of_group-is_last.ensures
    ∙ c.if-is_last.true) c.self.invariant.kept)

pub invariant_of-self-else-is_last : goal.invariant_of-self-else-is_last
invariant_of-self-else-is_last c =
    let old : TaskTable =
    record { tasks = c.self.inside.tasks; groups = c.self.inside.groups; last = c.self.inside.last } in
    sound_of (record { tasks = ended_where (is_itself c.args.task) old.tasks; groups = old.groups; last = old.last }) _
    _ _ _
    c.end_one.ensures.tasks refl c.end_one.ensures.live c.self.invariant.children_are
    (kept_exited old c.args.task c.self.invariant.kept)
