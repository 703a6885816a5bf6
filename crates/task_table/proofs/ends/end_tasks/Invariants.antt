use Rattle.task_table.proofs.Walking.{Walked}
use Rattle.task_table.proofs.ends.end_tasks.Given as goal

-- the numbers so far have been dealt with
abbrev pub invariant-loop-place : goal.invariant-loop-place
invariant-loop-place l = Walked l.which l.fn.tasks l.fn.live.items l.tasks l.live.items l.kept l.place
