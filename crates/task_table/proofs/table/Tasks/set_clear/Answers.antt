use Rattle.std.proofs.Common.{refl}
use Rattle.std.proofs.Common.{ap, sym, ◌∙◌}
use Rattle.task_table.specs.declared.task.Task.{Task}
use Rattle.task_table.specs.Entries.{changed_at}
use Rattle.task_table.specs.Table.{live_numbers}
use Rattle.task_table.specs.Table.{TaskTable}
use Rattle.task_table.proofs.Keeping.{sound_of, kept_task_changed, live_after_change}
use Rattle.task_table.proofs.table.Tasks.set_clear.Goals as goal

pub invariant_of-self : goal.invariant_of-self
invariant_of-self c =
    let old : TaskTable =
    record { tasks = c.self.inside.tasks; groups = c.self.inside.groups; last = c.self.inside.last } in
    let change = λ (x : Task). record x { clear = c.args.clear } in
    sound_of (record old { tasks = changed_at change old.tasks c.args.task }) _ _ _ _ c.put_clear.ensures refl
    (c.self.invariant.live_is ∙ sym (live_after_change change old.tasks c.args.task (λ _. refl))
    ∙ sym (ap live_numbers c.put_clear.ensures)) c.self.invariant.children_are
    (kept_task_changed old change c.args.task (λ _. refl) (λ _. refl) c.self.invariant.kept)
