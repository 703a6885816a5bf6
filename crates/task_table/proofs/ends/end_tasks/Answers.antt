use Rattle.std.proofs.Common.{◌∙◌, arith}
use Rattle.task_table.proofs.Walking.{Walked-leaves, Walked-stays, tasks_walked, live_walked}
use Rattle.task_table.proofs.ends.end_tasks.Goals as goal
use Rattle.task_table.proofs.ends.end_tasks.Goals.{then-not-end_task, else-not-end_task}

pub loop-place-preserved : goal.loop-place-preserved
loop-place-preserved c =
    let walked = c.loop-place.invariant in
    let number = c.index-number.result.now in
    elim c.if-not-end_task.branch [
      | then-not-end_task w ↦ rw (w.live-is, w.kept-is, c.end_task.ensures.tasks)
          (Walked-stays walked (omega arith) number c.index-number.ensures _ c.end_task.ensures.ends
          w.if-not-end_task.true)
      | else-not-end_task w ↦ rw (w.live-is, w.kept-is, c.end_task.ensures.tasks)
          (Walked-leaves walked (omega arith) number c.index-number.ensures _ c.end_task.ensures.ends
          w.if-not-end_task.false)
    ]

pub returns-clause-tasks : goal.returns-clause-tasks
returns-clause-tasks c = tasks_walked c.loop-place.invariant (omega arith) c.requires

pub returns-clause-live : goal.returns-clause-live
returns-clause-live c = c.truncate.ensures.items ∙ live_walked c.loop-place.invariant (omega arith) c.requires
