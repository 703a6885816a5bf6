-- A task at work in an address space, with shared areas in hand.
use Rattle.std.specs.Prelude.{ℕ, List, []}
use Rattle.rv_table.specs.declared.registers.Regs.{Regs}
use Rattle.mm_space.specs.Handed.{InHand}
use Rattle.mm_space.specs.Spaces.{AddressSpace, Reach}
use Rattle.quantum.specs.Acting.{Acting, acting_on}
use Rattle.quantum.specs.Instructions.{GoingTask}

-- what an access reaches in an address space, with these shared areas in hand
-- mmap(2); areas in hand: profile
abbrev pub reach_with : AddressSpace → List InHand → Reach
reach_with space hand = record { space = space; hand = hand }

-- a task at work there, with its registers
-- RISC-V Unprivileged ISA 20191213, 1.2
abbrev pub acting_with : (task : ℕ) → AddressSpace → List InHand → Acting
acting_with task space hand = acting_on task (reach_with space hand)

abbrev pub going_with : (task : ℕ) → AddressSpace → List InHand → Regs → GoingTask
going_with task space hand registers = record { acting = acting_with task space hand; registers = registers }

-- the same with no shared area in hand
-- RISC-V Unprivileged ISA 20191213, 1.2
abbrev pub acting_in : (task : ℕ) → AddressSpace → Acting
acting_in task space = acting_with task space []

abbrev pub going_in : (task : ℕ) → AddressSpace → Regs → GoingTask
going_in task space registers = going_with task space [] registers
