-- Ends of tasks leave the task list, the futex list and what is open as their effects do.
use Rattle.std.proofs.Common.{ap, ◌∙◌}
use Rattle.kernel_calls.specs.Prepared.{with_effect}
use Rattle.kernel_calls.proofs.Effects.{group_has_ended, task_has_ended}
use Rattle.kernel_calls.proofs.prepared.commit.Goals as goal

pub returns-in-EndsGroup : goal.returns-in-EndsGroup
returns-in-EndsGroup c = λ k tasks sleepers files.
    let a = c.args in
    ap (λ e. with_effect e a.group k) c.in-EndsGroup.is
    ∙ group_has_ended k a.tasks.now a.sleepers.now a.files.now tasks sleepers files
    c.in-EndsGroup.ending a.group c.close.new.self c.leave.new.sleepers c.close_descriptors.new.files
    c.leave.ensures c.close_descriptors.ensures c.close.ensures

pub returns-in-EndsTask : goal.returns-in-EndsTask
returns-in-EndsTask c = λ k tasks sleepers files.
    let a = c.args in
    ap (λ e. with_effect e a.group k) c.in-EndsTask.is
    ∙ task_has_ended k a.tasks.now a.sleepers.now a.files.now tasks sleepers files
    c.in-EndsTask.ending a.group c.leave-in-EndsTask.new.self c.leave-in-EndsTask-2.new.sleepers
    c.close_descriptors-in-EndsTask.new.files c.leave-in-EndsTask-2.ensures c.close_descriptors-in-EndsTask.ensures
    c.in-EndsTask.task c.leave-in-EndsTask.ensures
