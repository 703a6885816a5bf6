-- Who calls, and what a row may read beside the parts.
use Rattle.std.specs.Prelude.{ℕ, ◌+◌, List, Option, Some, None, option_map, if◌then◌else◌}
use Rattle.std.specs.FinMap as map
use Rattle.mount_file.specs.declared.mounts.Mount.{Mount}
use Rattle.rv_table.specs.declared.registers.Regs.{Regs}
use Rattle.mm_space.specs.Spaces.{AddressSpace}
use Rattle.task_table.specs.declared.task.Group.{Group}
use Rattle.task_table.specs.Table.{TaskTable, is_live, group_of}
use Rattle.kernel_model.specs.declared.caller.Caller.{Caller}
use Rattle.kernel_model.specs.declared.kernel.Kernel.{Kernel}
use Rattle.kernel_model.specs.declared.kernel.Part.TheVariants.{OfTasks, OfTask, OfSpace}
use Rattle.kernel_model.specs.entries.Parts.{Prog, done, look}

-- what a row may read beside the parts: the place of its entry, the mounts, and the key of the random stream
-- profile
pub record Context : Type 0 where
  pub place : ℕ
  pub mounts : List Mount
  pub seed : List ℕ

-- that of the next entry of a state
-- profile
abbrev pub context_of : Kernel → Context
context_of k = record { place = k.entries + 1; mounts = k.mounts; seed = k.seed }

-- a live task with its group, its registers and its memory, where each is there
-- credentials(7), Process ID (PID); clone(2), CLONE_VM, CLONE_FILES
abbrev pub in_memory : (task group : ℕ) → Group → Regs → Option AddressSpace → Option Caller
in_memory task group g registers space =
    option_map (λ (s : AddressSpace). record {
      task = task;
      group = group;
      memory = g.memory;
      table = g.table;
      registers = registers;
      space = s;
    }) space

abbrev pub caller_with_memory : (task group : ℕ) → Group → Option Regs → Prog (Option Caller)
caller_with_memory task group g None = done None
caller_with_memory task group g (Some registers) =
    look (OfSpace g.memory) (λ space. done (in_memory task group g registers space))

abbrev pub in_group : (task group : ℕ) → Option Group → Prog (Option Caller)
in_group task group None = done None
in_group task group (Some g) = look (OfTask task) (caller_with_memory task group g)

abbrev pub among : (task : ℕ) → TaskTable → Prog (Option Caller)
among task list =
    if is_live list.tasks task
    then in_group task (group_of list.tasks task) (map.get list.groups (group_of list.tasks task))
    else done None

abbrev pub caller_of : (task : ℕ) → Prog (Option Caller)
caller_of task = look OfTasks (among task)
