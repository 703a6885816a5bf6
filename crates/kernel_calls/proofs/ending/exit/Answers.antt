-- The caller alone ends.
use Rattle.std.proofs.Common.{◌%◌, refl, ◌∙◌}
use Rattle.task_table.specs.declared.task.Status.TheVariants.{Exited}
use Rattle.kernel_model.specs.calls.Ending.{task_end}
use Rattle.kernel_calls.proofs.Endings.{answers_ended, task_ends}
use Rattle.kernel_calls.proofs.ending.exit.Goals as goal

pub returns-clause-row : goal.returns-clause-row
returns-clause-row c caller k waiting console calling =
    let a = c.args in
    let new = c.ending_of.new in
    answers_ended (task_end caller (Exited (a.status % 256))) _ caller k new.space new.areas refl
    (task_ends caller k a.context.now a.space.now a.areas.now a.tasks.now waiting console calling c.in_ok-ended.ended
    c.in_ok-ending.ending new.space new.areas (Exited (a.status % 256))
    (c.in_ok-ending.ensures.status ∙ c.exited.ensures)
    (c.in_ok-ending.ensures.ends caller k a.tasks.now waiting console calling) c.in_ok-ended.ensures
    (c.in_ok-ending.ensures.closes ∙ c.closed_with-closes.ensures))
