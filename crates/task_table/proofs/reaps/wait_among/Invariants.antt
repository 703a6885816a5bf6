use Rattle.std.proofs.Common.{◌≡◌, take, filter}
use Rattle.std.specs.Prelude.{None, find}
use Rattle.task_table.specs.Reaps.{is_child, none_ended}
use Rattle.task_table.specs.Table.{has_ended}
use Rattle.task_table.proofs.reaps.wait_among.Given as goal

-- no child so far has ended
abbrev pub invariant-loop-number : goal.invariant-loop-number
invariant-loop-number l =
    (find (has_ended l.groups) (filter (is_child l.groups l.parent l.which) (take l.number-index l.numbers)) ≡ None)
    × (l.end ≡ none_ended (filter (is_child l.groups l.parent l.which) (take l.number-index l.numbers)))
