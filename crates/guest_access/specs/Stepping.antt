-- What an instruction that may touch shared areas leaves of a kernel.
use Rattle.std.specs.Prelude.{◌≡◌, ℕ, Some, List}
use Rattle.std.specs.FinMap as map
use Rattle.rv_table.specs.declared.registers.Regs.{Regs}
use Rattle.mm_space.specs.Handed.{AreaState}
use Rattle.mm_space.specs.Spaces.{AddressSpace}
use Rattle.kernel_model.specs.Names.{NamedMap}
use Rattle.kernel_model.specs.declared.caller.Caller.{Caller}
use Rattle.kernel_model.specs.declared.kernel.Kernel.{Kernel}
use Rattle.kernel_model.specs.entries.Parts.{parts, outcome_in, Change, changed}
use Rattle.kernel_model.specs.entries.Steps.{step_row}
use Rattle.guest_access.specs.Memories.{with_memory}

-- a task before its next instruction, in a kernel: with its number, registers and address space, and the shared areas
-- as they are
-- RISC-V Unprivileged ISA 20191213, 1.2
pub record IsAt (c : Caller) (k : Kernel) (number : ℕ) (before : Regs) (own : AddressSpace)
    (shared : NamedMap AreaState) : Type 0 where
  pub task : c.task ≡ number
  pub registers : c.registers ≡ before
  pub space : c.space ≡ own
  pub areas : k.areas ≡ shared

-- an instruction that may touch shared areas leaves a task these registers and this address space, and these areas
-- RISC-V Unprivileged ISA 20191213, 1.2; mmap(2), MAP_SHARED
pub record Steps (c : Caller) (k : Kernel) (registers : Regs) (space : AddressSpace) (areas : NamedMap AreaState)
    : Type 0 where
  pub changes : List Change
  pub row_is : outcome_in (parts k) (step_row c) ≡ Some changes
  pub done_is : changed changes k
      ≡ record (with_memory c space areas k) { registers = map.insert k.registers c.task registers }
