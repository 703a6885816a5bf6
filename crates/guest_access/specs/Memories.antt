-- A kernel with the memory of a task.
use Rattle.mm_space.specs.Handed.{AreaState}
use Rattle.mm_space.specs.Spaces.{AddressSpace}
use Rattle.kernel_model.specs.Names.{NamedMap, with_named}
use Rattle.kernel_model.specs.declared.caller.Caller.{Caller}
use Rattle.kernel_model.specs.declared.kernel.Kernel.{Kernel}

-- a kernel in which a task's address space, and the shared areas, are these
-- profile
abbrev pub with_memory : Caller → AddressSpace → NamedMap AreaState → Kernel → Kernel
with_memory c space areas k =
    record k { spaces = with_named k.spaces c.memory.place c.memory.index space; areas = areas }
