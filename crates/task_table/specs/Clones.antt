-- What a new task leaves, and tables that have one made last.
use Rattle.std.specs.Prelude.{◌≡◌, ◌⊎◌, ℕ, ◌+◌, true, None, IsTrue}
use Rattle.std.specs.FinMap.{insert}
use Rattle.sn_base.specs.declared.made.Made.{Made}
use Rattle.task_table.specs.declared.task.Group.{Group}
use Rattle.task_table.specs.Kept.{IsKept}
use Rattle.task_table.specs.Table.{TaskTable, group_of, cwd_of, is_live}

-- a task with the next number, live, that begins a thread group of that number
-- clone(2), without CLONE_THREAD
abbrev pub with_group : TaskTable → Group → ℕ → TaskTable
with_group t group clear = record {
  tasks = insert t.tasks (t.last + 1) (record { group = t.last + 1; clear = clear; live = true });
  groups = insert t.groups (t.last + 1) group;
  last = t.last + 1;
}

-- an opening task: its group has no parent
-- profile
abbrev pub opened : TaskTable → Made → Made → ℕ → TaskTable
opened t memory table cwd =
    with_group t (record { parent = 0; memory = memory; table = table; cwd = cwd; ended = None }) 0

-- a new process: its parent is the caller's group, whose working directory it has
-- clone(2), fork(2)
abbrev pub forked : TaskTable → ℕ → Made → Made → ℕ → TaskTable
forked t task memory table clear =
    let parent = group_of t.tasks task in
    let cwd = cwd_of t.groups parent in
    with_group t (record { parent = parent; memory = memory; table = table; cwd = cwd; ended = None }) clear

-- a new thread in the caller's group
-- clone(2), CLONE_THREAD
abbrev pub threaded : TaskTable → ℕ → ℕ → TaskTable
threaded t task clear = record {
  tasks = insert t.tasks (t.last + 1) (record { group = group_of t.tasks task; clear = clear; live = true });
  groups = t.groups;
  last = t.last + 1;
}

-- ---- a task that was made last

-- whether one table comes to another by one new task: one that begins a thread group, or a live task's thread
-- clone(2), CLONE_THREAD
abbrev pub MadeFrom : TaskTable → TaskTable → Type 0
MadeFrom before after =
    ((group : Group) × (clear : ℕ) × (group.ended ≡ None) × (after ≡ with_group before group clear))
    ⊎ ((task : ℕ) × (clear : ℕ) × IsTrue (is_live before.tasks task) × (after ≡ threaded before task clear))

-- whether a table is what the making of one task left
-- clone(2); profile: the table before is one that is kept
pub record WasMade (after : TaskTable) : Type 0 where
  pub before : TaskTable
  pub kept : IsKept before
  pub made : MadeFrom before after
