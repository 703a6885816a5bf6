-- A pipe that a call makes.
use Rattle.std.specs.Prelude.{◌≡◌, ℕ, List, Some}
use Rattle.fd_table.specs.Flags.{has_flag}
use Rattle.fd_table.specs.Tables.{Table}
use Rattle.fd_table.specs.declared.description.Object.TheVariants.{PipeEnd}
use Rattle.fd_table.specs.declared.description.PipeSide.TheVariants as side
use Rattle.fd_table.specs.declared.flags.AccessMode.TheVariants.{Read, Write}
use Rattle.fd_table.specs.declared.flags.TheConstants.{O_NONBLOCK}
use Rattle.pipe_core.specs.Pipes.{new_pipe}
use Rattle.mm_space.specs.Accesses.{writable}
use Rattle.mm_space.specs.Handed.{AreaState, InHand}
use Rattle.mm_space.specs.Spaces.{AddressSpace, Reach}
use Rattle.kernel_model.specs.Names.{NamedMap, get_named}
use Rattle.kernel_model.specs.declared.caller.Caller.{Caller}
use Rattle.kernel_model.specs.declared.kernel.Kernel.{Kernel}
use Rattle.kernel_model.specs.declared.open_files.OpenFile.{OpenFile}
use Rattle.kernel_model.specs.descriptors.OpenFiles.{new_file}
use Rattle.kernel_model.specs.calls.Answers.{Answer, refuses}
use Rattle.kernel_model.specs.calls.Callers.{Context as RowContext}
use Rattle.kernel_model.specs.calls.Pipes.{pipe_made, read_end_at, two_free, two_ints}
use Rattle.kernel_model.specs.entries.Areas.{access_row, written_with}
use Rattle.kernel_model.specs.entries.Parts.{Parts, Prog, outcome_in, parts}
use Rattle.guest_access.specs.Lending.{AreThose, with_hand}
use Rattle.call_fs.specs.declared.pipes.PipeEnds.{PipeEnds}
use Rattle.call_fs.specs.declared.pipes.NewPipe.{NewPipe}
use Rattle.call_fs.specs.declared.pipes.PipeCall.{PipeCall}
use Rattle.call_fs.specs.declared.pipes.PipeCall.TheVariants.{Refused, Makes}

-- the open file description of an end of the pipe that the entry of a place makes
-- pipe(2), DESCRIPTION, O_NONBLOCK
abbrev pub read_file : (place flags : ℕ) → OpenFile
read_file place flags = new_file (PipeEnd (read_end_at place) side.Read) Read (has_flag flags O_NONBLOCK)

abbrev pub write_file : (place flags : ℕ) → OpenFile
write_file place flags = new_file (PipeEnd (read_end_at place) side.Write) Write (has_flag flags O_NONBLOCK)

-- a row comes to a pipe that is made: the caller's table has two free numbers, and the buffer may be written
-- pipe(2), RETURN VALUE
pub record MakesPipe (row : Prog Answer) (new : NewPipe) (context : RowContext) (c : Caller) (k : Kernel) : Type 0 where
  pub hand : List InHand
  pub table : Table
  pub there : get_named k.files.tables c.table.place c.table.index ≡ Some table
  pub granted : outcome_in (parts k) (access_row writable c.space new.ends.buffer 8) ≡ Some hand
  pub free : two_free table ≡ Some (new.ends.first, new.ends.second)
  pub empty : new.pipe ≡ new_pipe
  pub row_is : outcome_in (parts k) row
      ≡ pipe_made context c new.ends.buffer new.ends.flags hand table (new.ends.first, new.ends.second)

-- a row comes to what has become of pipe2: it is refused, or makes a pipe
-- pipe(2)
abbrev pub Prepares : Prog Answer → PipeCall → RowContext → Caller → Kernel → Type 0
Prepares row (Refused errno) context c k = outcome_in (parts k) row ≡ refuses errno
Prepares row (Makes new) context c k = MakesPipe row new context c k

-- the two numbers were put into the buffer, where each of its bytes may be written
-- pipe(2), pipefd
abbrev pub ints_put : (task : ℕ) → (own : AddressSpace) → PipeEnds → List InHand → Reach
ints_put task own ends hand = written_with task own ends.buffer (two_ints (ends.first, ends.second)) hand

abbrev pub PutsInts : (task : ℕ) → PipeEnds → (own space : AddressSpace) → (shared areas : NamedMap AreaState)
    → Type 0
PutsInts task ends own space shared areas =
    (s : Parts) (hand : List InHand) → AreThose s shared
    → outcome_in s (access_row writable own ends.buffer 8) ≡ Some hand
    → (space ≡ (ints_put task own ends hand).space) × (areas ≡ with_hand (ints_put task own ends hand).hand shared)
