use Rattle.task_table.proofs.Waiting.{Orphaned}
use Rattle.task_table.proofs.reaps.orphan_children.Given as goal

-- the numbers so far have been dealt with
abbrev pub invariant-loop-place : goal.invariant-loop-place
invariant-loop-place l = Orphaned l.parent l.fn.groups l.fn.children.items l.groups l.children.items l.kept l.place
