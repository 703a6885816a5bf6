-- Copies that a step works on, and where they stand in a kernel.
use Rattle.std.specs.Prelude.{◌≡◌, Some}
use Rattle.guest_access.specs.Memories.{with_memory}
use Rattle.kernel_model.specs.Names.{get_named}
use Rattle.kernel_model.specs.declared.caller.Caller.{Caller}
use Rattle.kernel_model.specs.declared.kernel.Kernel.{Kernel}
use Rattle.plain_steps.specs.declared.drafts.Draft.{Draft}

-- a task's address space is as the kernel has it
-- profile
abbrev pub IsCopied : Caller → Kernel → Type 0
IsCopied c k = get_named k.spaces c.memory.place c.memory.index ≡ Some c.space

-- what is left of a kernel once the address space and the shared areas of a draft have taken their places
-- profile
abbrev pub with_draft : Draft → Kernel → Kernel
with_draft d k = with_memory d.caller d.caller.space d.areas k
