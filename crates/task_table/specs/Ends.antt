-- What is left when tasks and thread groups end.
use Rattle.std.specs.Prelude.{ℕ, Bool, false, not, ◌&&◌, ◌==◌, if◌then◌else◌, Some, List, map, filter}
use Rattle.std.specs.List.{list_any}
use Rattle.std.specs.Option.{option_map_or}
use Rattle.std.specs.Ordering.{nat_cmp}
use Rattle.std.specs.FinMap.{FinMap, get}
use Rattle.task_table.specs.declared.task.Task.{Task}
use Rattle.task_table.specs.declared.task.Group.{Group}
use Rattle.task_table.specs.declared.task.Status.{Status}
use Rattle.task_table.specs.declared.task.EndedTask.{EndedTask}
use Rattle.task_table.specs.Entries.{changed_at, each_changed}
use Rattle.task_table.specs.Reaps.{orphaned}
use Rattle.task_table.specs.Table.{TaskTable, live_numbers, group_of, clear_of}

-- ---- which tasks a call ends, as a test of their numbers and of what they have

-- the task itself
-- _exit(2), C library/kernel differences
abbrev pub is_itself : ℕ → ℕ → Task → Bool
is_itself task n c = n == task

-- each task of a thread group
-- exit_group(2)
abbrev pub is_member : ℕ → ℕ → Task → Bool
is_member group n c = c.group == group

-- each task of a thread group but one
-- execve(2), Effect on process attributes
abbrev pub is_other_member : ℕ → ℕ → ℕ → Task → Bool
is_other_member group task n c = (c.group == group) && not (n == task)

-- ---- what is left

-- a task that has ended where it passes a test
-- _exit(2)
abbrev pub ended_if : (ℕ → Task → Bool) → ℕ → Task → Task
ended_if test n c = if test n c then record c { live = false } else c

-- each task that passes a test has ended
-- _exit(2)
abbrev pub ended_where : (ℕ → Task → Bool) → FinMap nat_cmp Task → FinMap nat_cmp Task
ended_where test tasks = each_changed (ended_if test) tasks

-- the live tasks that pass a test, ascending, each with its clear word
-- set_tid_address(2)
abbrev pub ended_tasks : (ℕ → Task → Bool) → FinMap nat_cmp Task → List EndedTask
ended_tasks test tasks =
    map (λ n. record { task = n; clear = clear_of tasks n })
    (filter (λ n. option_map_or (test n) (get tasks n) false) (live_numbers tasks))

-- whether no other task of its thread group lives
-- _exit(2)
abbrev pub is_last : FinMap nat_cmp Task → ℕ → Bool
is_last tasks task =
    not (list_any (λ n. (group_of tasks n == group_of tasks task) && not (n == task)) (live_numbers tasks))

-- a thread group has ended, and its children have no parent
-- wait4(2), NOTES; profile: no group takes them over
abbrev pub groups_closed : FinMap nat_cmp Group → ℕ → Status → FinMap nat_cmp Group
groups_closed groups g status =
    changed_at (λ group. record group { ended = Some status })
    (each_changed (λ _. orphaned g) groups) g

-- the task has ended, and with the last task of a thread group the group too
-- _exit(2)
abbrev pub exited : TaskTable → ℕ → Status → TaskTable
exited t task status = record t {
  tasks = ended_where (is_itself task) t.tasks;
  groups = if is_last t.tasks task then groups_closed t.groups (group_of t.tasks task) status else t.groups;
}

-- a thread group and all its tasks have ended
-- exit_group(2)
abbrev pub group_ended : TaskTable → ℕ → Status → TaskTable
group_ended t g status = record t {
  tasks = ended_where (is_member g) t.tasks;
  groups = groups_closed t.groups g status;
}

-- the other tasks of a task's thread group have ended
-- execve(2), Effect on process attributes
abbrev pub others_ended : TaskTable → ℕ → TaskTable
others_ended t task = record t {
  tasks = ended_where (is_other_member (group_of t.tasks task) task) t.tasks;
}
