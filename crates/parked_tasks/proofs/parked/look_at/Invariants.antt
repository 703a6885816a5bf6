-- So far the first of the tasks are looked at that are parked.
use Rattle.std.proofs.Common.{take}
use Rattle.parked_tasks.proofs.Woken.{AreLookedAt}
use Rattle.parked_tasks.proofs.parked.look_at.Given as goal

abbrev pub invariant-loop-task : goal.invariant-loop-task
invariant-loop-task l =
    AreLookedAt (take l.task-index l.tasks) l.initial.parked l.parked l.initial.awake l.awake
