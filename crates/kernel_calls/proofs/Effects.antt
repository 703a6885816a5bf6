-- What a call leaves of a kernel, by its effect.
use Rattle.std.proofs.Common.{◌≡◌, ℕ, ap, sym, ◌∙◌}
use Rattle.futex_core.specs.Waiters.{FutexList}
use Rattle.task_table.specs.Ends.{exited, group_ended}
use Rattle.task_table.specs.Table.{TaskTable}
use Rattle.kernel_model.specs.declared.kernel.Kernel.{Kernel}
use Rattle.kernel_model.specs.declared.open_files.OpenFiles.{OpenFiles}
use Rattle.kernel_calls.specs.Prepared.{left_behind, with_closed, with_effect}
use Rattle.kernel_calls.specs.declared.prepared.Effect.{Effect}
use Rattle.kernel_calls.specs.declared.prepared.Effect.TheVariants.{EndsGroup, EndsTask}
use Rattle.kernel_calls.specs.declared.prepared.Ending.{Ending}

-- a kernel with a task list, a futex list and what is open
abbrev pub kept : Kernel → TaskTable → FutexList → OpenFiles → Kernel
kept k list waiting files = record k { tasks = list; sleepers = waiting; files = files }

module _ (k : Kernel) (list : TaskTable) (waiting : FutexList) (files : OpenFiles) (e : k.tasks ≡ list)
    (f : k.sleepers ≡ waiting) (g : k.files ≡ files) where
  -- is one with those that it has, where they are these
  pub same_kernel : k ≡ kept k list waiting files
  same_kernel =
      ap (λ t. kept k t k.sleepers k.files) e ∙ ap (λ w. kept k list w k.files) f ∙ ap (kept k list waiting) g

  -- and so where an effect changes some of them
  module _ (effect : Effect) (group : ℕ) (list' : TaskTable) (waiting' : FutexList) (files' : OpenFiles) where
    pub has_changed : with_effect effect group (kept k list waiting files)
        ≡ kept (kept k list waiting files) list' waiting' files'
        → with_effect effect group k ≡ kept k list' waiting' files'
    has_changed is = ap (with_effect effect group) same_kernel ∙ is

  -- and where tasks end
  module _ (ending : Ending) (group : ℕ) (list' : TaskTable) (waiting' : FutexList) (files' : OpenFiles)
      (left : waiting' ≡ left_behind ending waiting) (shut : files' ≡ with_closed ending.closes files) where
    ended_as : (after : TaskTable) → list' ≡ after
        → kept k after (left_behind ending waiting) (with_closed ending.closes files)
        ≡ kept k list' waiting' files'
    ended_as after is =
        ap (λ t. kept k t (left_behind ending waiting) (with_closed ending.closes files)) (sym is)
        ∙ ap (λ w. kept k list' w (with_closed ending.closes files)) (sym left)
        ∙ ap (kept k list' waiting') (sym shut)

    pub group_has_ended : list' ≡ group_ended list group ending.status
        → with_effect (EndsGroup ending) group k ≡ kept k list' waiting' files'
    group_has_ended is =
        has_changed (EndsGroup ending) group list' waiting' files' (ended_as (group_ended list group ending.status) is)

    pub task_has_ended : (task : ℕ) → list' ≡ exited list task ending.status
        → with_effect (EndsTask task ending) group k ≡ kept k list' waiting' files'
    task_has_ended task is =
        has_changed (EndsTask task ending) group list' waiting' files'
        (ended_as (exited list task ending.status) is)
