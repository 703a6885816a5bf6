-- The table of tasks and thread groups, and what is read from it.
use Rattle.std.specs.Prelude.{ℕ, Bool, List, length, is_some, nat_lt}
use Rattle.std.specs.Option.{option_map_or}
use Rattle.std.specs.Ordering.{nat_cmp}
use Rattle.std.specs.FinMap.{FinMap, get, empty}
use Rattle.task_table.specs.declared.task.Task.{Task}
use Rattle.task_table.specs.declared.task.Group.{Group}
use Rattle.task_table.specs.Entries.{passes, numbers_where}

-- the tasks and the thread groups by number, ended ones too, and the greatest number used
-- clone(2), credentials(7): a thread has a number of its own, and a group that of its first thread
pub record TaskTable : Type 0 where
  pub tasks : FinMap nat_cmp Task
  pub groups : FinMap nat_cmp Group
  pub last : ℕ

-- the table before any task was made
-- profile: the first number is 1
abbrev pub no_tasks : TaskTable
no_tasks = record { tasks = empty; groups = empty; last = 0 }

-- whether a number is that of a live task
-- profile
abbrev pub is_live : FinMap nat_cmp Task → ℕ → Bool
is_live tasks n = passes (λ c. c.live) tasks n

-- the numbers of the live tasks, ascending
-- profile
abbrev pub live_numbers : FinMap nat_cmp Task → List ℕ
live_numbers tasks = numbers_where (λ c. c.live) tasks

-- how many tasks live
-- profile
abbrev pub live_count : TaskTable → ℕ
live_count t = length (live_numbers t.tasks)

-- the number of a task's thread group, or 0 where there is no such task
-- credentials(7), Process ID (PID)
abbrev pub group_of : FinMap nat_cmp Task → ℕ → ℕ
group_of tasks n = option_map_or (λ c. c.group) (get tasks n) 0

-- the address of a task's clear word, or 0 where it has none
-- set_tid_address(2)
abbrev pub clear_of : FinMap nat_cmp Task → ℕ → ℕ
clear_of tasks n = option_map_or (λ c. c.clear) (get tasks n) 0

-- the inode number of a thread group's working directory, or 0 where there is no such group
-- credentials(7); clone(2), CLONE_FS
abbrev pub cwd_of : FinMap nat_cmp Group → ℕ → ℕ
cwd_of groups g = option_map_or (λ group. group.cwd) (get groups g) 0

-- whether a number is that of a thread group that has ended
-- _exit(2)
abbrev pub has_ended : FinMap nat_cmp Group → ℕ → Bool
has_ended groups g = passes (λ group. is_some group.ended) groups g

-- whether a thread group has a parent
-- profile: 0 stands for none
abbrev pub has_parent : Group → Bool
has_parent group = nat_lt 0 group.parent
