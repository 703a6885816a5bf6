-- The caller's thread group ends.
use Rattle.std.proofs.Common.{◌%◌, refl, subst}
use Rattle.task_table.specs.declared.task.Status.TheVariants.{Exited}
use Rattle.kernel_model.specs.calls.Ending.{group_end}
use Rattle.kernel_calls.specs.Prepared.{EndsGroupAs}
use Rattle.kernel_calls.proofs.Endings.{answers_ended}
use Rattle.kernel_calls.proofs.ending.exit_group.Goals as goal

pub returns-clause-row : goal.returns-clause-row
returns-clause-row c caller k waiting console calling =
    let new = c.end_group.new in
    answers_ended (group_end caller (Exited (c.args.status % 256))) _ caller k new.space new.areas refl
    (subst (λ status. EndsGroupAs status c.in_ok-ending.ending caller k new.space new.areas) c.exited.ensures
    (c.in_ok-ending.ensures.ends caller k waiting console calling)).done_is
