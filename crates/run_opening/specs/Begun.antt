-- What an opening has come to, from the kernel that the run's state tells: tasks began, or an execve refused one.
use Rattle.std.specs.Prelude.{◌≡◌, ℕ, ◌+◌, List, ◌++◌, drop, Option, Some, ⊤, IfSome, IsSomeAnd}
use Rattle.host_node.specs.Tree.{Shape}
use Rattle.sn_errno.specs.declared.errno.Errno.{Errno}
use Rattle.mount_file.specs.declared.mounts.Mounts.{Mounts}
use Rattle.kernel_model.specs.declared.kernel.Kernel.{Kernel}
use Rattle.kernel_model.specs.declared.opening.OpenedTask.{OpenedTask}
use Rattle.kernel_model.specs.files.Settled.{tree_now}
use Rattle.kernel_model.specs.opening.Opening.{Refuses, root_of, tasks_begun}
use Rattle.image_walk.specs.Granted.{GivesBack}
use Rattle.image_walk.specs.Standing.{no_left}
use Rattle.run_opening.specs.declared.opening.OpenErr.{OpenErr}
use Rattle.run_opening.specs.declared.opening.OpenErr.TheVariants.{Image, Memory}
use Rattle.run_opening.specs.Told.{TreesTold}
use Rattle.run_opening.specs.Trees.{HaveTrees, trees_with}

-- from one kernel to another the tasks from one index to another began, and the record grew by their execves: whatever
-- records are behind these, the opening goes on from the kernel after as it does from the one before
-- execve(2)
pub record HasBegun (m : Mounts) (from upto : ℕ) (tasks tasks' : List OpenedTask) (k after : Kernel) : Type 0 where
  pub opened : List OpenedTask
  pub added : tasks' ≡ tasks ++ opened
  pub begun : (rest : List OpenedTask) → tasks_begun (from + 1) (drop from m.tasks) (opened ++ rest) k
      ≡ tasks_begun (upto + 1) (drop upto m.tasks) rest after

-- the same of states: where the one before tells a kernel, so does the one after
-- execve(2); profile
abbrev pub GoesOn : Mounts → (from upto : ℕ) → (tasks tasks' : List OpenedTask) → (before after : Option Kernel)
    → Type 0
GoesOn m from upto tasks tasks' before after =
    IfSome before (λ k. IsSomeAnd after (HasBegun m from upto tasks tasks' k))

-- from a kernel the opening of the tasks from an index on came to an execve that failed, and the kernel that it leaves
-- has the trees that are told then
-- execve(2), ERRORS
pub record IsOpeningRefused (m : Mounts) (from : ℕ) (tasks tasks' : List OpenedTask) (task : ℕ) (errno : Errno)
    (f : TreesTold)
    (k : Kernel) : Type 0 where
  pub opened : List OpenedTask
  pub added : tasks' ≡ tasks ++ opened
  pub left : Kernel
  pub refuses : tasks_begun (from + 1) (drop from m.tasks) opened k ≡ Refuses left task errno
  pub settles : GivesBack f.root f.children (tree_now left no_left (root_of m.mounts))
  pub others_keep : (after : Shape) → tree_now left no_left (root_of m.mounts) ≡ Some after
      → HaveTrees left 1 (trees_with f.others after)

-- why an opening ended before all tasks had begun
-- execve(2), ERRORS; profile
abbrev pub Stops : Mounts → (from : ℕ) → (tasks tasks' : List OpenedTask) → OpenErr → TreesTold → Kernel → Type 0
Stops m from tasks tasks' (Image task errno) f k = IsOpeningRefused m from tasks tasks' task errno f k
Stops m from tasks tasks' Memory f k = ⊤
