-- Ends of tasks, as they were prepared.
use Rattle.std.specs.Prelude.{◌≡◌, List, [], ◌∷◌}
use Rattle.mm_space.specs.Handed.{AreaState}
use Rattle.mm_space.specs.Spaces.{AddressSpace}
use Rattle.task_table.specs.declared.task.EndedTask.{EndedTask}
use Rattle.task_table.specs.Table.{TaskTable}
use Rattle.kernel_model.specs.Names.{NamedMap}
use Rattle.kernel_model.specs.declared.caller.Caller.{Caller}
use Rattle.kernel_model.specs.declared.kernel.Kernel.{Kernel}
use Rattle.kernel_model.specs.declared.kernel.Part.TheVariants.{OfTasks, OfSleepers}
use Rattle.kernel_model.specs.calls.Ending.{ends_as}
use Rattle.kernel_model.specs.entries.Parts.{parts, outcome_in, changed}
use Rattle.guest_access.specs.Memories.{with_memory}
use Rattle.kernel_calls.specs.Prepared.{left_behind}
use Rattle.kernel_calls.specs.declared.prepared.Ending.{Ending}

-- these tasks end, as it was prepared: whatever the task list is then, the changes are that list, the futex list as it
-- is left behind, and what the address space and the shared areas are then
-- _exit(2); set_tid_address(2)
abbrev pub Ends : List EndedTask → Ending → Caller → Kernel → AddressSpace → NamedMap AreaState → Type 0
Ends ended e c k space areas =
    (after : TaskTable) → changed (outcome_in (parts k) (ends_as c ended after)) k
    ≡ changed ((OfTasks, after) ∷ (OfSleepers, left_behind e k.sleepers) ∷ []) (with_memory c space areas k)
