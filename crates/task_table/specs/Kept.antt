-- What holds of the table at all times.
use Rattle.std.specs.Prelude.{◌≡◌, ℕ, ◌<◌, ◌≤◌, List, IsTrue, IsFalse}
use Rattle.std.specs.FinMap.{contains_key}
use Rattle.task_table.specs.declared.table.TheConstants.{LAST_TASK, MOST_LIVE}
use Rattle.task_table.specs.Entries.{numbers_where}
use Rattle.task_table.specs.Table.{TaskTable, is_live, live_numbers, live_count, group_of, has_ended, has_parent}

-- numbers, groups and limits of a table
-- clone(2); credentials(7); profile: the number of live tasks, the greatest number
pub record IsKept (t : TaskTable) : Type 0 where
  -- a number isn't 0, and is at most the greatest used
  pub task_numbers : (n : ℕ) → IsTrue (contains_key t.tasks n) → (0 < n) × (n ≤ t.last)
  pub group_numbers : (g : ℕ) → IsTrue (contains_key t.groups g) → (0 < g) × (g ≤ t.last)
  pub last_small : t.last ≤ LAST_TASK
  -- each task's group is there, and while the task lives it hasn't ended
  pub task_groups : (n : ℕ) → IsTrue (contains_key t.tasks n) → IsTrue (contains_key t.groups (group_of t.tasks n))
  pub live_groups : (n : ℕ) → IsTrue (is_live t.tasks n) → IsFalse (has_ended t.groups (group_of t.tasks n))
  pub few_live : live_count t ≤ MOST_LIVE

-- the list of live tasks and that of groups with a parent are those of the table
-- profile
pub record IsSoundTable (t : TaskTable) (live children : List ℕ) : Type 0 where
  pub kept : IsKept t
  pub live_is : live ≡ live_numbers t.tasks
  pub children_are : children ≡ numbers_where has_parent t.groups
