-- Why the next step of a task that is parked is not ready.
use Rattle.std.specs.Prelude.{◌≡◌, ℕ, Some}
use Rattle.kernel_model.specs.declared.caller.Caller.{Caller}
use Rattle.kernel_model.specs.declared.traps.Next.TheVariants.{Calls}
use Rattle.kernel_model.specs.entries.History.{touches_next}
use Rattle.kernel_model.specs.entries.Parts.{parts}
use Rattle.kernel_model.specs.machine.Registers.{args_of, call_of}
use Rattle.kernel_model.specs.calls.Table.{call_row}
use Rattle.kernel_calls.specs.Prepared.{WaitsWith}
use Rattle.proc_cells.specs.declared.cells.Cells.{Cells}
use Rattle.proc_cells.specs.Beside.{nothing_beside}
use Rattle.proc_cells.specs.Cells.{IsAwake, caller_in, kernel_of}
use Rattle.parked_tasks.specs.declared.used.Spot.{Spot}
use Rattle.call_table.specs.Entries.{IsNextOf}

-- A live task that is not on the futex list, with the memory and the descriptor table of those names, stands at a call
-- by the areas that there are, and the call waits in each state that holds the same as the cells in what it used. Its
-- instruction touches a shared area exactly where that is told.
-- wait4(2); read(2); write(2)
pub record Parks (cells : Cells) (task : ℕ) (spot : Spot) : Type 0 where
  pub caller : Caller
  pub found : caller_in cells task ≡ Some caller
  pub in_memory : caller.memory ≡ spot.memory
  pub at_table : caller.table ≡ spot.table
  pub in_area : touches_next (Some caller) ≡ spot.in_area
  pub awake : IsAwake cells task
  pub calls : IsNextOf cells.areas (Some caller) Calls
  pub waits : WaitsWith spot.awaited caller.table (parts (kernel_of cells nothing_beside 0))
      (λ context. call_row context caller (call_of caller.registers) (args_of caller.registers))
