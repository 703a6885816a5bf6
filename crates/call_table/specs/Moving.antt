-- What calls that move bytes, or make a pipe, touch of what is open, and in which kernel a pipe is made.
use Rattle.std.specs.Prelude.{◌≡◌, ℕ, Bool, true, false, Option, Some, None}
use Rattle.sn_base.specs.declared.made.Made.{Made}
use Rattle.kernel_model.specs.Names.{get_named}
use Rattle.kernel_model.specs.declared.caller.Caller.{Caller}
use Rattle.kernel_model.specs.declared.kernel.Kernel.{Kernel}
use Rattle.kernel_model.specs.calls.Callers.{Context as RowContext}
use Rattle.kernel_model.specs.calls.Pipes.{read_end_at, write_end_at}
use Rattle.kernel_calls.specs.declared.context.Context.{Context}
use Rattle.call_fs.specs.declared.transfers.Transfer.{Transfer}
use Rattle.call_fs.specs.declared.transfers.Transfer.TheVariants.{Nothing, Takes, Puts, Appends}
use Rattle.proc_cells.specs.declared.cells.Cells.{Cells}
use Rattle.parked_tasks.specs.declared.touched.Touched.{Touched}

-- a pipe alone
-- read(2); write(2); pipe(7)
abbrev pub one_pipe : (pipe : Made) → Touched
one_pipe pipe = record {
  table = None;
  descriptions = record { first = None; second = None };
  pipes = record { first = Some pipe; second = None };
}

-- what a call touches that moves bytes
-- read(2); write(2); pipe(7)
abbrev pub touched_by_transfer : Transfer → Option Touched
touched_by_transfer Nothing = None
touched_by_transfer (Takes pipe count) = Some (one_pipe pipe)
touched_by_transfer (Puts pipe from taken) = Some (one_pipe pipe)
touched_by_transfer (Appends from) = None

-- whether a call that moves bytes may have changed a shared area: one that puts them somewhere has only read them
-- read(2); write(2)
abbrev pub may_have_read : Transfer → Bool
may_have_read Nothing = true
may_have_read (Takes pipe count) = true
may_have_read (Puts pipe from taken) = false
may_have_read (Appends from) = false

-- what a call touches that makes a pipe, at a place: the descriptor table, the descriptions of both ends, and the pipe
-- pipe(2), DESCRIPTION
abbrev pub touched_by_pipe : (table : Made) → (place : ℕ) → Touched
touched_by_pipe table place = record {
  table = Some table;
  descriptions = record { first = Some (read_end_at place); second = Some (write_end_at place) };
  pipes = record { first = Some (read_end_at place); second = None };
}

-- a pipe is made for a task with that memory and that table, at a place, in a kernel whose memory and open files are
-- those of cells
-- pipe(2); profile
pub record IsMaking (context : Context) (cells : Cells) (of_row : RowContext) (c : Caller) (k : Kernel) : Type 0 where
  pub place : of_row.place ≡ context.place
  pub task : c.task ≡ context.task
  pub table : c.table ≡ context.table
  pub memory : c.memory ≡ context.memory
  pub there : get_named k.spaces c.memory.place c.memory.index ≡ Some c.space
  pub spaces : k.spaces ≡ cells.spaces
  pub areas : k.areas ≡ cells.areas
  pub files : k.files ≡ cells.files
