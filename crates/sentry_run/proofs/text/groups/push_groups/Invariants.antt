-- How far the lines of the groups are there.
use Rattle.std.proofs.Common.{◌≡◌, ◌++◌, take}
use Rattle.std.specs.List.{flat_map}
use Rattle.sentry_run.proofs.Groups.{line_at}
use Rattle.sentry_run.proofs.text.groups.push_groups.Given as goal

-- the lines of the numbers so far are there
abbrev pub invariant-loop-number : goal.invariant-loop-number
invariant-loop-number l =
    l.out.items ≡ l.initial.out.items ++ flat_map (line_at l.groups) (take l.number-index l.number-items)
