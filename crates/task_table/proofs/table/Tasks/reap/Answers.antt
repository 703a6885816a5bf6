use Rattle.std.proofs.Common.{refl}
use Rattle.task_table.specs.Entries.{changed_at}
use Rattle.task_table.specs.Table.{TaskTable}
use Rattle.task_table.proofs.Keeping.{sound_of, kept_group_changed}
use Rattle.task_table.proofs.table.Tasks.reap.Goals as goal

pub invariant_of-self : goal.invariant_of-self
invariant_of-self c =
    let old : TaskTable =
    record { tasks = c.self.inside.tasks; groups = c.self.inside.groups; last = c.self.inside.last } in
    sound_of (record old { groups = changed_at (λ g. record g { parent = 0 }) old.groups c.in-Reaped.child }) _ _ _ _
    refl c.release.ensures.groups c.self.invariant.live_is c.release.ensures.children
    (kept_group_changed old (λ g. record g { parent = 0 }) c.in-Reaped.child (λ _. refl) c.self.invariant.kept)
