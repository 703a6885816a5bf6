use Rattle.std.proofs.Common.{ap, sym, ◌∙◌, ◌++◌, ◌∷◌, []}
use Rattle.task_table.proofs.Listing.{leaving_told, staying_told}
use Rattle.task_table.proofs.ends.tasks_leaving.Goals as goal
use Rattle.task_table.proofs.ends.tasks_leaving.Goals.{in-Some+in_ok-push, in_default}

pub loop-number-preserved : goal.loop-number-preserved
loop-number-preserved c =
    let i = c.loop-number.number-index in
    elim c.match-leaving_task.branch [
      | in-Some+in_ok-push w ↦
          w.leaving-is ∙ w.in_ok-push.ensures.ok
          ∙ ap (λ ended. ended ++ w.in-Some.task ∷ []) c.loop-number.invariant
          ∙ sym (leaving_told c.args.which.now c.args.tasks.now c.args.live.now i w.in-Some.task
          c.loop-number-test.true (sym c.leaving_task.ensures ∙ w.in-Some.is))
      | in_default w ↦
          w.leaving-is ∙ c.loop-number.invariant
          ∙ sym (staying_told c.args.which.now c.args.tasks.now c.args.live.now i c.loop-number-test.true
          (sym c.leaving_task.ensures ∙ w.in_default.is))
    ]
