-- exit and exit_group, the ends of tasks and thread groups, and what tasks say of their end: set_tid_address and
-- set_robust_list.
use Rattle.std.specs.Prelude.{ℕ, ◌%◌, List, [], ◌∷◌, ◌++◌, Bool, if◌then◌else◌, pos}
use Rattle.futex_core.specs.declared.keys.FutexKey.{FutexKey}
use Rattle.futex_core.specs.Waiters.{FutexList, after_leave, after_wake}
use Rattle.task_table.specs.declared.task.EndedTask.{EndedTask}
use Rattle.task_table.specs.declared.task.Status.{Status}
use Rattle.task_table.specs.declared.task.Status.TheVariants.{Exited}
use Rattle.task_table.specs.declared.task.Task.{Task}
use Rattle.task_table.specs.Ends.{exited, group_ended, ended_tasks, is_itself, is_last, is_member}
use Rattle.task_table.specs.Entries.{changed_at}
use Rattle.task_table.specs.Table.{TaskTable}
use Rattle.kernel_model.specs.declared.caller.Caller.{Caller}
use Rattle.kernel_model.specs.declared.kernel.Part.TheVariants.{OfTasks, OfSleepers}
use Rattle.kernel_model.specs.calls.Answers.{Answer, replies}
use Rattle.kernel_model.specs.calls.ClearWords.{Cleared, nothing_cleared, words_cleared}
use Rattle.kernel_model.specs.descriptors.Counts.{table_closed}
use Rattle.kernel_model.specs.entries.Areas.{reach_changes}
use Rattle.kernel_model.specs.entries.Parts.{Prog, done, look, Change, ◌>>=◌}

-- the futex list without tasks that have ended
-- futex(2); tasks that ended: profile
abbrev pub left_by : List EndedTask → FutexList → FutexList
left_by [] list = list
left_by (e ∷ ended) list = left_by ended (after_leave list e.task)

-- the futex list after one waiter on each of these words was woken, in their order
-- set_tid_address(2): a futex wake of one waiter on the word
abbrev pub woken_on : List FutexKey → FutexList → FutexList
woken_on [] list = list
woken_on (key ∷ keys) list = woken_on keys (after_wake list key 1)

-- what tasks that end leave: they have left the futex list, their clear words are 0, and a waiter on each is woken
-- _exit(2); set_tid_address(2); that they leave the list before: profile
abbrev pub end_changes : Caller → List EndedTask → TaskTable → Cleared → FutexList → List Change
end_changes c ended after x waiting =
    (OfTasks, after) ∷ (OfSleepers, woken_on x.keys (left_by ended waiting)) ∷ reach_changes c.memory x.reach

abbrev pub ends_as : Caller → List EndedTask → TaskTable → Prog (List Change)
ends_as c ended after =
    words_cleared c ended (nothing_cleared c.space)
    >>= λ x. look OfSleepers (λ waiting. done (end_changes c ended after x waiting))

-- and where the thread group ends, its descriptors are closed
-- _exit(2), DESCRIPTION; close(2)
abbrev pub and_closed : Caller → List Change → Prog (List Change)
and_closed c changes = table_closed c.table >>= λ closed. done (changes ++ closed)

abbrev pub closed_if : (last : Bool) → Caller → List Change → Prog (List Change)
closed_if last c changes = if last then and_closed c changes else done changes

-- the caller's thread group ends with a status, with all its tasks
-- exit_group(2)
abbrev pub group_end : Caller → Status → Prog (List Change)
group_end c status =
    look OfTasks (λ list. ends_as c (ended_tasks (is_member c.group) list.tasks) (group_ended list c.group status)
    >>= and_closed c)

-- the caller ends with a status, and with the last task of a thread group the group
-- _exit(2)
abbrev pub task_end : Caller → Status → Prog (List Change)
task_end c status =
    look OfTasks (λ list. ends_as c (ended_tasks (is_itself c.task) list.tasks) (exited list c.task status)
    >>= closed_if (is_last list.tasks c.task) c)

-- an end as a call; the reply, which nobody reads, is 0
-- exit_group(2)
abbrev pub ends_with : List Change → Prog Answer
ends_with changes = done (replies (pos 0) changes)

-- exit(status), exit_group(status): the low 8 bits of the status
-- _exit(2), exit_group(2); wait(2), WEXITSTATUS
abbrev pub exit_row : (status : ℕ) → Caller → Prog Answer
exit_row status c = task_end c (Exited (status % 256)) >>= ends_with

abbrev pub exit_group_row : (status : ℕ) → Caller → Prog Answer
exit_group_row status c = group_end c (Exited (status % 256)) >>= ends_with

-- a task has its clear word at an address, or none where that is 0
-- set_tid_address(2), DESCRIPTION
abbrev pub clear_set : (task address : ℕ) → TaskTable → TaskTable
clear_set task address list =
    record list { tasks = changed_at (λ (t : Task). record t { clear = address }) list.tasks task }

-- set_tid_address(address): the caller's clear word is there; the reply is the caller's task number
-- set_tid_address(2), DESCRIPTION and RETURN VALUE
abbrev pub set_tid_address_row : (address : ℕ) → Caller → Prog Answer
set_tid_address_row address c =
    look OfTasks (λ list. done (replies (pos c.task) ((OfTasks, clear_set c.task address list) ∷ [])))

-- set_robust_list(head, length): the list is not looked at, also when the task ends
-- set_robust_list(2); profile
abbrev pub set_robust_list_row : Prog Answer
set_robust_list_row = done (replies (pos 0) [])
