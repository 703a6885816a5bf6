-- What an effect of a call leaves of the task list and the futex list.
use Rattle.std.proofs.Common.{◌≡◌, ℕ, true, false, List, refl, ap, sym, subst, ◌∙◌}
use Rattle.futex_core.specs.Waiters.{FutexList, after_wake}
use Rattle.task_table.specs.declared.task.ReapEnd.{ReapEnd}
use Rattle.task_table.specs.declared.task.ReapEnd.TheVariants.{Reaped, NotYet, NoChild}
use Rattle.task_table.specs.Ends.{exited, group_ended, is_itself, is_member}
use Rattle.task_table.specs.Reaps.{after_reap, reap_end}
use Rattle.task_table.specs.Table.{TaskTable, is_live}
use Rattle.task_table.proofs.Endings.{live_before_end}
use Rattle.kernel_model.specs.declared.kernel.Kernel.{Kernel}
use Rattle.kernel_model.specs.declared.open_files.OpenFiles.{OpenFiles}
use Rattle.kernel_model.specs.calls.Ending.{clear_set, left_by}
use Rattle.kernel_model.specs.entries.Waiting.{Awake, wait_of}
use Rattle.kernel_calls.specs.Prepared.{EndsEach, EndsOnly, left_behind, with_effect}
use Rattle.kernel_calls.specs.declared.prepared.Effect.{Effect}
use Rattle.kernel_calls.specs.declared.prepared.Effect.TheVariants.{Nothing, EndsGroup, EndsTask, SetsClear}
use Rattle.kernel_calls.specs.declared.prepared.Effect.TheVariants.{Wakes, Reaps, ChangesFiles}
use Rattle.proc_cells.specs.Beside.{kernel_with, nothing_beside, nothing_held}
use Rattle.proc_cells.proofs.Ends.{live_cleared, tasks_released}
use Rattle.parked_tasks.specs.Untouched.{changes_list, files_left}
use Rattle.call_table.proofs.OffList.{lives_on, off_before_left_by, off_before_wake, off_before_woken_on, off_left_by}
use Rattle.call_table.proofs.OffList.{off_wake, off_woken_on, IsNone}

-- the task list and the futex list, before an effect and after it
pub record Lists : Type 0 where
  pub tasks : TaskTable
  pub sleepers : FutexList

-- who lives has lived, and who is off the futex list was, and stays
pub record Left (before after : Lists) : Type 0 where
  pub lives : (q : ℕ) → is_live after.tasks.tasks q ≡ true → is_live before.tasks.tasks q ≡ true
  pub last : after.tasks.last ≡ before.tasks.last
  pub off : (q : ℕ) → wait_of before.sleepers q ≡ Awake → wait_of after.sleepers q ≡ Awake
  pub was_off : (q : ℕ) → is_live after.tasks.tasks q ≡ true → wait_of after.sleepers q ≡ Awake
      → wait_of before.sleepers q ≡ Awake

pub left_same : (lists : Lists) → Left lists lists
left_same lists = record {
  lives = λ q live. live;
  last = refl;
  off = λ q off. off;
  was_off = λ q live off. off;
}

-- what they are after an effect
abbrev pub lists_after : Effect → (group : ℕ) → Lists → Lists
lists_after Nothing group lists = lists
lists_after (EndsGroup ending) group lists = record {
  tasks = group_ended lists.tasks group ending.status;
  sleepers = left_behind ending lists.sleepers;
}
lists_after (EndsTask task ending) group lists = record {
  tasks = exited lists.tasks task ending.status;
  sleepers = left_behind ending lists.sleepers;
}
lists_after (SetsClear task address) group lists = record lists { tasks = clear_set task address lists.tasks }
lists_after (Wakes key most) group lists =
    record lists { sleepers = after_wake lists.sleepers key most }
lists_after (Reaps which) group lists =
    record lists { tasks = after_reap lists.tasks (reap_end lists.tasks.groups group which) }
lists_after (ChangesFiles table change) group lists = lists

last_released : (list : TaskTable) (end : ReapEnd) → (after_reap list end).last ≡ list.last
last_released list NotYet = refl
last_released list NoChild = refl
last_released list (Reaped child status) = refl

module _ (task group : ℕ) (lists : Lists) where
  pub left_after : (e : Effect) → EndsOnly e task → EndsEach e task group lists.tasks
      → Left lists (lists_after e group lists)
  left_after Nothing own ended = left_same lists
  left_after (ChangesFiles table change) own ended = left_same lists
  left_after (EndsGroup ending) own ended = record {
    lives = λ q live. live_before_end (is_member group) lists.tasks.tasks q live;
    last = refl;
    off = λ q off. off_woken_on ending.cleared _ q (off_left_by ending.ended lists.sleepers q off);
    was_off = λ q live off.
        off_before_left_by ending.ended lists.sleepers q
        (subst (IsNone q) (sym ended) (lives_on (is_member group) lists.tasks.tasks q live))
        (off_before_woken_on ending.cleared (left_by ending.ended lists.sleepers) q off);
  }
  left_after (EndsTask ended_task ending) own ended = record {
    lives = λ q live. live_before_end (is_itself ended_task) lists.tasks.tasks q live;
    last = refl;
    off = λ q off. off_woken_on ending.cleared _ q (off_left_by ending.ended lists.sleepers q off);
    was_off = λ q live off.
        off_before_left_by ending.ended lists.sleepers q
        (subst (IsNone q) (sym ended) (lives_on (is_itself task) lists.tasks.tasks q
        (subst (λ t. is_live (exited lists.tasks t ending.status).tasks q ≡ true) own live)))
        (off_before_woken_on ending.cleared (left_by ending.ended lists.sleepers) q off);
  }
  left_after (SetsClear setter address) own ended = record {
    lives = λ q live. sym (live_cleared lists.tasks setter address q) ∙ live;
    last = refl;
    off = λ q off. off;
    was_off = λ q live off. off;
  }
  left_after (Wakes key most) own ended = record {
    lives = λ q live. live;
    last = refl;
    off = λ q off. off_wake lists.sleepers key most q off;
    was_off = λ q live off. off_before_wake lists.sleepers key most q off;
  }
  left_after (Reaps which) own ended =
      let end = reap_end lists.tasks.groups group which in
      record {
        lives = λ q live. ap (λ tasks. is_live tasks q) (sym (tasks_released lists.tasks end)) ∙ live;
        last = last_released lists.tasks end;
        off = λ q off. off;
        was_off = λ q live off. off;
      }

  -- the task list stays where the effect leaves it
  pub list_stays : (e : Effect) → changes_list e ≡ false → (lists_after e group lists).tasks ≡ lists.tasks
  list_stays Nothing same = refl
  list_stays (EndsGroup ending) same = absurd (cc same)
  list_stays (EndsTask ended_task ending) same = absurd (cc same)
  list_stays (SetsClear setter address) same = absurd (cc same)
  list_stays (Wakes key most) same = refl
  list_stays (Reaps which) same = absurd (cc same)
  list_stays (ChangesFiles table change) same = refl

  -- the kernel that an effect leaves has these lists
  abbrev pub at : (console : List ℕ) → OpenFiles → Kernel
  at console files =
      kernel_with
      (record nothing_held { tasks = lists.tasks; sleepers = lists.sleepers; console = console; files = files })
      nothing_beside 0

  abbrev lists_in : Kernel → Lists
  lists_in k = record { tasks = k.tasks; sleepers = k.sleepers }

  pub lists_are : (e : Effect) (after : Lists) (console : List ℕ) (files files' : OpenFiles)
      → with_effect e group (at console files)
      ≡ record (at console files) { tasks = after.tasks; sleepers = after.sleepers; files = files' }
      → after ≡ lists_after e group lists
  lists_are e after console files files' does = ap lists_in (sym does) ∙ by e
    where
      by : (e : Effect) → lists_in (with_effect e group (at console files)) ≡ lists_after e group lists
      by Nothing = refl
      by (EndsGroup ending) = refl
      by (EndsTask ended_task ending) = refl
      by (SetsClear setter address) = refl
      by (Wakes key most) = refl
      by (Reaps which) = refl
      by (ChangesFiles table change) = refl

-- what is open behind an effect is what the effect leaves of it
pub files_by : (e : Effect) (group : ℕ) (k : Kernel) → files_left e k.files ≡ (with_effect e group k).files
files_by Nothing group k = refl
files_by (EndsGroup ending) group k = refl
files_by (EndsTask ended_task ending) group k = refl
files_by (SetsClear setter address) group k = refl
files_by (Wakes key most) group k = refl
files_by (Reaps which) group k = refl
files_by (ChangesFiles table change) group k = refl
