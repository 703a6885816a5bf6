-- The parts of a kernel that cells are, and the parts beside them.
use Rattle.std.specs.Prelude.{ℕ, List, [], Option, IsTrue, is_some}
use Rattle.std.specs.Ordering.{nat_cmp}
use Rattle.std.specs.FinMap as map
use Rattle.mount_file.specs.declared.mounts.Mount.{Mount}
use Rattle.futex_core.specs.Waiters.{FutexList}
use Rattle.rv_table.specs.declared.registers.Regs.{Regs}
use Rattle.mm_space.specs.Handed.{AreaState}
use Rattle.mm_space.specs.Spaces.{AddressSpace}
use Rattle.task_table.specs.Table.{TaskTable, is_live, no_tasks}
use Rattle.kernel_model.specs.Names.{NamedMap}
use Rattle.kernel_model.specs.declared.caller.Caller.{Caller}
use Rattle.kernel_model.specs.declared.kernel.Kernel.{Kernel}
use Rattle.kernel_model.specs.declared.open_files.OpenFiles.{OpenFiles}
use Rattle.kernel_model.specs.descriptors.OpenFiles.{nothing_open}
use Rattle.kernel_model.specs.calls.Callers.{caller_of}
use Rattle.kernel_model.specs.entries.Parts.{parts, outcome_in}
use Rattle.kernel_model.specs.files.FileTree.{Nodes}

-- what stands beside cells in a kernel: nodes, rises of counts, mounts, and the key of the random stream
-- profile
pub record Beside : Type 0 where
  pub nodes : Nodes
  pub failed : map.FinMap nat_cmp ℕ
  pub mounts : List Mount
  pub seed : List ℕ

abbrev pub nothing_beside : Beside
nothing_beside = record { nodes = map.empty; failed = map.empty; mounts = []; seed = [] }

-- what cells hold: the task list, registers by task, address spaces and shared areas by name, what is open, the futex
-- list, and the console
-- profile
pub record HeldParts : Type 0 where
  pub tasks : TaskTable
  pub registers : map.FinMap nat_cmp Regs
  pub spaces : NamedMap AddressSpace
  pub areas : NamedMap AreaState
  pub files : OpenFiles
  pub sleepers : FutexList
  pub console : List ℕ

abbrev pub nothing_held : HeldParts
nothing_held = record {
  tasks = no_tasks;
  registers = map.empty;
  spaces = map.empty;
  areas = map.empty;
  files = nothing_open;
  sleepers = record { sleepers = []; woken = [] };
  console = [];
}

-- a kernel of these parts, after so many entries
-- profile
abbrev pub kernel_with : HeldParts → Beside → (entries : ℕ) → Kernel
kernel_with held beside entries = record {
  tasks = held.tasks;
  registers = held.registers;
  spaces = held.spaces;
  areas = held.areas;
  files = held.files;
  nodes = beside.nodes;
  sleepers = held.sleepers;
  console = held.console;
  failed = beside.failed;
  mounts = beside.mounts;
  seed = beside.seed;
  entries = entries;
}

-- a live task with its group, its registers and its memory, where each is there
-- credentials(7), Process ID (PID)
abbrev pub found_in : TaskTable → map.FinMap nat_cmp Regs → NamedMap AddressSpace → (task : ℕ) → Option Caller
found_in list registers spaces task =
    outcome_in (parts (kernel_with (record nothing_held { tasks = list; registers = registers; spaces = spaces })
    nothing_beside 0)) (caller_of task)

-- each live task has registers, and its group a memory
-- profile
abbrev pub AreAtHome : TaskTable → map.FinMap nat_cmp Regs → NamedMap AddressSpace → Type 0
AreAtHome list registers spaces =
    (task : ℕ) → IsTrue (is_live list.tasks task) → IsTrue (is_some (found_in list registers spaces task))
