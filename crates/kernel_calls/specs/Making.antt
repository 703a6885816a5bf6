-- Children that a call makes, and the kernel with them.
use Rattle.std.specs.Prelude.{ℕ, ◌+◌, Option, Some, None}
use Rattle.std.specs.FinMap as map
use Rattle.mm_space.specs.Spaces.{AddressSpace}
use Rattle.task_table.specs.Clones.{forked, threaded}
use Rattle.kernel_model.specs.Names.{with_named}
use Rattle.kernel_model.specs.declared.caller.Caller.{Caller}
use Rattle.kernel_model.specs.declared.kernel.Kernel.{Kernel}
use Rattle.kernel_model.specs.calls.Clone.{made_for_child}
use Rattle.kernel_model.specs.laws.Files.{with_copy}
use Rattle.guest_access.specs.Memories.{with_memory}
use Rattle.kernel_calls.specs.declared.clone.ClonedTask.{ClonedTask}
use Rattle.kernel_calls.specs.declared.clone.Words.{Words}

-- a kernel whose words have got the child's number
-- clone(2), CLONE_PARENT_SETTID, CLONE_CHILD_SETTID
abbrev pub with_words : Option Words → Caller → Kernel → Kernel
with_words None c k = k
with_words (Some words) c k = with_memory c words.space words.areas k

-- a kernel with a new task: a thread of the caller's group, or a process with a memory of its own and a copy of the
-- caller's descriptor table, which are named by the place of the entry
-- clone(2); fork(2)
abbrev pub with_new_task : (place : ℕ) → Option AddressSpace → (clear : ℕ) → Caller → Kernel → Kernel
with_new_task place None clear c k = record k { tasks = threaded k.tasks c.task clear }
with_new_task place (Some memory) clear c k = record k {
  tasks = forked k.tasks c.task (made_for_child place) (made_for_child place) clear;
  spaces = with_named k.spaces place 0 memory;
  files = with_copy c.table (made_for_child place) k.files;
}

-- a kernel in which a child's registers stand under a number
-- clone(2)
abbrev pub with_registers : ClonedTask → (number : ℕ) → Kernel → Kernel
with_registers child number k = record k { registers = map.insert k.registers number child.registers }

-- a kernel with a child: the words that got its number, its task with its memory and its descriptors, and its registers
-- clone(2); fork(2)
abbrev pub with_new_child : ClonedTask → (place : ℕ) → Caller → Kernel → Kernel
with_new_child child place c k =
    with_registers child (k.tasks.last + 1) (with_new_task place child.memory child.clear c
    (with_words child.words c k))
