-- Which tasks a call ends, as the code names them.
use Rattle.std.specs.Prelude.{ℕ, Bool, false}
use Rattle.std.specs.Option.{option_map_or}
use Rattle.std.specs.Ordering.{nat_cmp}
use Rattle.std.specs.FinMap.{FinMap, get}
use Rattle.task_table.specs.declared.task.Task.{Task}
use Rattle.task_table.specs.declared.ends.Leaving.{Leaving}
use Rattle.task_table.specs.declared.ends.Leaving.TheVariants.{Members, OtherMembers}
use Rattle.task_table.specs.Ends.{is_member, is_other_member}

-- whether a call ends a task of this number, with what it has
-- profile
abbrev pub is_leaving : Leaving → ℕ → Task → Bool
is_leaving (Members group) = is_member group
is_leaving (OtherMembers group task) = is_other_member group task

-- whether a call ends the task of a number
-- profile
abbrev pub leaves : Leaving → FinMap nat_cmp Task → ℕ → Bool
leaves which tasks n = option_map_or (is_leaving which n) (get tasks n) false
