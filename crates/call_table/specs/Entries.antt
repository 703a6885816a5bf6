-- What an entry of a live task does to cells, and whether it may be made.
use Rattle.std.specs.Prelude.{◌≡◌, ℕ, ◌+◌, ◌<◌, ⊤, Bool, true, List, Option, Some, None, Result, IfOk, IfSome, IfNone}
use Rattle.sn_base.specs.declared.memory.Memory.{Memory}
use Rattle.rv_table.specs.declared.registers.Regs.{Regs}
use Rattle.mm_space.specs.Handed.{AreaState}
use Rattle.mm_space.specs.Spaces.{AddressSpace}
use Rattle.sn_base.specs.declared.made.Made.{Made}
use Rattle.quantum.specs.declared.run.TheConstants.{QUANTUM}
use Rattle.quantum.specs.Instructions.{ran}
use Rattle.kernel_model.specs.Names.{NamedMap, get_named, with_named}
use Rattle.kernel_model.specs.declared.caller.Caller.{Caller}
use Rattle.kernel_model.specs.declared.kernel.Kernel.{Kernel}
use Rattle.kernel_model.specs.machine.Spaces.{going_in}
use Rattle.kernel_model.specs.declared.traps.Next.{Next}
use Rattle.kernel_model.specs.entries.Areas.{next_row}
use Rattle.kernel_model.specs.entries.History.{is_whole, touches_next}
use Rattle.kernel_model.specs.declared.entry.Entry.{Entry}
use Rattle.kernel_model.specs.entries.Parts.{parts, outcome_in, set_at}
use Rattle.kernel_model.specs.entries.Ready.{is_ready}
use Rattle.kernel_model.specs.entries.Steps.{step}
use Rattle.guest_access.specs.Lending.{AreAlike}
use Rattle.kernel_calls.specs.declared.context.Context.{Context}
use Rattle.proc_cells.specs.declared.cells.Cells.{Cells}
use Rattle.proc_cells.specs.declared.cells.Standing.{Standing}
use Rattle.proc_cells.specs.Beside.{Beside}
use Rattle.proc_cells.specs.Cells.{caller_in, kernel_of}
use Rattle.parked_tasks.specs.declared.used.Spot.{Spot}
use Rattle.call_table.specs.declared.entered.Entered.{Entered}
use Rattle.call_table.specs.declared.entered.Turn.{Turn}
use Rattle.call_table.specs.declared.entered.Turn.TheVariants.{Enters, Waits}

-- so many instructions of a task ran over its group's memory, and nothing else changed there
-- RISC-V Unprivileged ISA 20191213, 1.2
pub record RunsIn (task : ℕ) (memory : Made) (count : ℕ) (before after : Regs)
    (spaces spaces' : NamedMap AddressSpace) : Type 0 where
  pub space : AddressSpace
  pub left : AddressSpace
  pub there : get_named spaces memory.place memory.index ≡ Some space
  pub put : spaces' ≡ with_named spaces memory.place memory.index left
  pub steps : ran count (going_in task space before) ≡ Some (going_in task left after)

-- cells that lacked memory: some whole instructions of one task have run, fewer than 10,000, and each shared area and
-- what is open are as they were
-- profile
pub record HasRunPart (task : ℕ) (before after : Cells) : Type 0 where
  pub caller : Caller
  pub found : caller_in before task ≡ Some caller
  pub count : ℕ
  pub few : count < QUANTUM
  pub registers : Regs
  pub runs : RunsIn task caller.memory count caller.registers registers before.spaces after.spaces
  pub kept_registers : after.registers ≡ set_at task (Some registers) before.registers
  pub kept_tasks : after.tasks ≡ before.tasks
  pub kept_areas : AreAlike after.areas before.areas
  pub kept_files : after.files ≡ before.files
  pub kept_sleepers : after.sleepers ≡ before.sleepers
  pub kept_console : after.console ≡ before.console

-- what the next instruction of a live task does, in each kernel with these shared areas
-- RISC-V Unprivileged ISA 20191213, 1.2
abbrev pub IsNextOf : NamedMap AreaState → Option Caller → Next → Type 0
IsNextOf areas None next = ⊥
IsNextOf areas (Some c) next = (k : Kernel) → k.areas ≡ areas → (outcome_in (parts k) (next_row c)).next ≡ next

abbrev pub NextIn : Cells → (task : ℕ) → Next → Type 0
NextIn p task next = IsNextOf p.areas (caller_in p task) next

-- it touches a shared area
-- mmap(2), MAP_SHARED
abbrev pub is_touching : Cells → (task : ℕ) → Bool
is_touching p task = touches_next (caller_in p task)

-- a context is of a task that stands so
-- profile
pub record IsOf (context : Context) (s : Standing) : Type 0 where
  pub group : context.group ≡ s.group
  pub memory : context.memory ≡ s.memory
  pub table : context.table ≡ s.table

-- whether a task's next step is ready, whatever stands beside the cells
-- profile
abbrev pub ReadyIs : Cells → (task : ℕ) → Bool → Type 0
ReadyIs p task b = (beside : Beside) (n : ℕ) → is_ready (kernel_of p beside n) task ≡ b

-- a fact of the entry that a turn made, where it made one, or of a turn whose task's step was not ready
-- profile
abbrev pub IfEntered : {A : Type 0} → Result (Option A) Memory → (A → Type 0) → Type 0
IfEntered result fact = IfOk result (λ made. IfSome made fact)

abbrev pub IfParked : {A : Type 0} → Result (Option A) Memory → Type 0 → Type 0
IfParked result fact = IfOk result (λ made. IfNone made fact)

-- the same of what a turn came to: the entry that it made; or its call waits, by what it used
-- profile
abbrev pub if_enters : (Entered → Type 0) → Turn → Type 0
if_enters fact (Enters made) = fact made
if_enters fact (Waits spot) = ⊤

abbrev pub IfEnters : Result Turn Memory → (Entered → Type 0) → Type 0
IfEnters result fact = IfOk result (if_enters fact)

abbrev pub if_waits : (Spot → Type 0) → Turn → Type 0
if_waits fact (Enters made) = ⊤
if_waits fact (Waits spot) = fact spot

abbrev pub IfTurnWaits : Result Turn Memory → (Spot → Type 0) → Type 0
IfTurnWaits result fact = IfOk result (if_waits fact)

-- an entry is the step from cells to those that it left, at a place and by a seed, whatever else stands beside them
-- profile
abbrev pub StepsTo : (before after : Cells) → (seed : List ℕ) → (place : ℕ) → Entry → Type 0
StepsTo before after seed place entry = (beside : Beside) (n : ℕ) → beside.seed ≡ seed → n + 1 ≡ place →
    step (kernel_of before beside n) entry ≡ Some (kernel_of after beside (n + 1))

-- an entry tells all that was done between cells: a run is whole
-- profile
abbrev pub IsWholeTo : (before after : Cells) → Entry → Type 0
IsWholeTo before after entry = (beside : Beside) (n m : ℕ) →
    is_whole entry (kernel_of before beside n) (kernel_of after beside m) ≡ true
