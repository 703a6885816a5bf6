use Rattle.std.proofs.Common.{refl}
use Rattle.std.proofs.Common.{ap, sym, ◌∙◌}
use Rattle.task_table.specs.declared.task.Group.{Group}
use Rattle.task_table.specs.Entries.{changed_at, numbers_where}
use Rattle.task_table.specs.Table.{has_parent}
use Rattle.task_table.specs.Table.{TaskTable}
use Rattle.task_table.proofs.Keeping.{sound_of, kept_group_changed, children_after_change}
use Rattle.task_table.proofs.table.Tasks.set_cwd.Goals as goal

pub invariant_of-self : goal.invariant_of-self
invariant_of-self c =
    let old : TaskTable =
    record { tasks = c.self.inside.tasks; groups = c.self.inside.groups; last = c.self.inside.last } in
    let change = λ (x : Group). record x { cwd = c.args.cwd } in
    sound_of (record old { groups = changed_at change old.groups c.args.group }) _ _ _ _ refl c.put_cwd.ensures
    c.self.invariant.live_is
    (c.self.invariant.children_are ∙ sym (children_after_change change old.groups c.args.group (λ _. refl))
    ∙ sym (ap (numbers_where has_parent) c.put_cwd.ensures))
    (kept_group_changed old change c.args.group (λ _. refl) c.self.invariant.kept)
