use Rattle.std.proofs.Common.{◌≡◌, take}
use Rattle.task_table.proofs.Listing.{leaving}
use Rattle.task_table.proofs.ends.tasks_leaving.Given as goal

-- the tasks so far that leave are in the list
abbrev pub invariant-loop-number : goal.invariant-loop-number
invariant-loop-number l = l.leaving ≡ leaving l.which l.tasks (take l.number-index l.live)
