-- Cells as a kernel, with what stands beside them, and a live task of them.
use Rattle.std.specs.Prelude.{◌≡◌, ℕ, Option, Some}
use Rattle.mm_space.specs.Spaces.{AddressSpace}
use Rattle.kernel_model.specs.Names.{get_named}
use Rattle.kernel_model.specs.declared.caller.Caller.{Caller}
use Rattle.kernel_model.specs.declared.kernel.Kernel.{Kernel}
use Rattle.kernel_model.specs.entries.Waiting.{Awake, wait_of}
use Rattle.proc_cells.specs.declared.cells.Cells.{Cells}
use Rattle.proc_cells.specs.declared.cells.Standing.{Standing}
use Rattle.proc_cells.specs.Beside.{Beside, HeldParts, kernel_with, found_in}

-- what cells hold, and the kernel that they are with this beside them, after so many entries
-- profile
abbrev pub held_by : Cells → HeldParts
held_by p = record {
  tasks = p.tasks;
  registers = p.registers;
  spaces = p.spaces;
  areas = p.areas;
  files = p.files;
  sleepers = p.sleepers;
  console = p.console;
}

abbrev pub kernel_of : Cells → Beside → (entries : ℕ) → Kernel
kernel_of p beside entries = kernel_with (held_by p) beside entries

-- a live task of cells
-- profile
abbrev pub caller_in : Cells → (task : ℕ) → Option Caller
caller_in p task = found_in p.tasks p.registers p.spaces task

-- a live task is in this group, with this memory, this descriptor table and these registers
-- credentials(7), Process ID (PID); clone(2), CLONE_VM, CLONE_FILES
abbrev pub caller_with : (task : ℕ) → Standing → AddressSpace → Caller
caller_with task s space = record {
  task = task;
  group = s.group;
  memory = s.memory;
  table = s.table;
  registers = s.registers;
  space = space;
}

pub record StandsAs (p : Cells) (task : ℕ) (s : Standing) : Type 0 where
  pub space : AddressSpace
  pub in_memory : get_named p.spaces s.memory.place s.memory.index ≡ Some space
  pub found : caller_in p task ≡ Some (caller_with task s space)

-- a task is not on the futex list
-- futex(2)
abbrev pub IsAwake : Cells → (task : ℕ) → Type 0
IsAwake p task = wait_of p.sleepers task ≡ Awake

-- nothing changed
-- profile
pub record AreKept (before after : Cells) : Type 0 where
  pub tasks : after.tasks ≡ before.tasks
  pub registers : after.registers ≡ before.registers
  pub spaces : after.spaces ≡ before.spaces
  pub areas : after.areas ≡ before.areas
  pub files : after.files ≡ before.files
  pub sleepers : after.sleepers ≡ before.sleepers
  pub console : after.console ≡ before.console
