-- What a read or a write does to what is open and to the console, and that a call's row comes to what was prepared.
use Rattle.std.specs.Prelude.{◌≡◌, ⊤, ℕ, ℤ, ◌+◌, ◌≤◌, List, ◌++◌, length, take, Option, Some, None, option_copied}
use Rattle.std.specs.Option.{option_map_or}
use Rattle.sn_errno.specs.declared.errno.Errno.TheVariants.{EFAULT}
use Rattle.fd_table.specs.declared.description.Description.{Description}
use Rattle.pipe_core.specs.Pipes.{PipeState, after_read, after_write}
use Rattle.pipe_core.specs.declared.ring.TheConstants.{CAPACITY}
use Rattle.sn_base.specs.declared.made.Made.{Made}
use Rattle.stat_layout.specs.IoVecs.{total_of}
use Rattle.stat_layout.specs.declared.iovec.IoVec.{IoVec}
use Rattle.mm_space.specs.Handed.{AreaState}
use Rattle.mm_space.specs.Spaces.{AddressSpace}
use Rattle.kernel_model.specs.Names.{NamedMap, get_named, with_named}
use Rattle.kernel_model.specs.declared.caller.Caller.{Caller}
use Rattle.kernel_model.specs.declared.kernel.Kernel.{Kernel}
use Rattle.kernel_model.specs.declared.open_files.OpenFiles.{OpenFiles}
use Rattle.kernel_model.specs.calls.Answers.{Answer, not_ready, replies}
use Rattle.kernel_model.specs.calls.Lookups.{or_refuse}
use Rattle.kernel_model.specs.calls.ReadWrite.{writes_of}
use Rattle.kernel_model.specs.calls.Vectors.{gathered}
use Rattle.kernel_model.specs.entries.Parts.{Change, Prog, ◌>>=◌, changed, outcome_in, parts}
use Rattle.guest_access.specs.Memories.{with_memory}
use Rattle.kernel_calls.specs.declared.context.Context.{Context}
use Rattle.call_fs.specs.Lookups.{HasPipe}
use Rattle.call_fs.specs.Records.{buffers_in}
use Rattle.call_fs.specs.declared.lookups.FileInHand.{FileInHand}
use Rattle.call_fs.specs.declared.transfers.Transfer.{Transfer}
use Rattle.call_fs.specs.declared.transfers.Transfer.TheVariants.{Nothing, Takes, Puts, Appends}
use Rattle.call_fs.specs.declared.transfers.Transferred.{Transferred}
use Rattle.call_fs.specs.declared.transfers.Transferred.TheVariants.{Replies, Waits}

-- what is open, with another pipe of that name, where one is there
-- pipe(7), I/O on pipes and FIFOs
abbrev pub with_pipe : (PipeState → PipeState) → (name : Made) → OpenFiles → OpenFiles
with_pipe change name files =
    option_map_or (λ pipe. record files { pipes = with_named files.pipes name.place name.index (change pipe) })
    (get_named files.pipes name.place name.index) files

-- a kernel changed by the bytes of buffers, where each of them may be read
-- write(2), EFAULT
abbrev pub by_bytes : (List ℕ → Kernel → Kernel) → Option (List ℕ) → Kernel → Kernel
by_bytes change bytes k = option_map_or (λ b. change b k) bytes k

-- a kernel after a transfer, whose caller has that address space
-- read(2), write(2); pipe(7), I/O on pipes and FIFOs
abbrev pub put_by : (pipe : Made) → (taken : ℕ) → List ℕ → Kernel → Kernel
put_by pipe taken bytes k = record k { files = with_pipe (λ p. after_write p (take taken bytes)) pipe k.files }

abbrev pub appended_by : List ℕ → Kernel → Kernel
appended_by bytes k = record k { console = k.console ++ bytes }

abbrev pub after_transfer : Transfer → AddressSpace → Kernel → Kernel
after_transfer Nothing space k = k
after_transfer (Takes pipe count) space k =
    record k { files = with_pipe (λ p. after_read p count) pipe k.files }
after_transfer (Puts pipe from taken) space k =
    by_bytes (put_by pipe taken) (outcome_in (parts k) (gathered space (buffers_in from))) k
after_transfer (Appends from) space k =
    by_bytes appended_by (outcome_in (parts k) (gathered space (buffers_in from))) k

-- bytes that are put into a pipe are no more than the buffers have, and than the pipe has room for
-- pipe(7), Pipe capacity
abbrev pub FitsPipe : Transfer → OpenFiles → Type 0
FitsPipe Nothing files = ⊤
FitsPipe (Takes pipe count) files = ⊤
FitsPipe (Puts pipe from taken) files =
    (taken ≤ total_of (buffers_in from)) × ((p : PipeState) → get_named files.pipes pipe.place pipe.index ≡ Some p
    → length p.bytes + taken ≤ CAPACITY)
FitsPipe (Appends from) files = ⊤

abbrev pub IsSure : Transferred → OpenFiles → Type 0
IsSure (Replies reply transfer) files = FitsPipe transfer files
IsSure (Waits pipe) files = ⊤

-- a kernel has that address space of a caller, and these shared areas
-- profile
pub record HasMemory (c : Caller) (k : Kernel) (own : AddressSpace) (shared : NamedMap AreaState) : Type 0 where
  pub space : c.space ≡ own
  pub there : get_named k.spaces c.memory.place c.memory.index ≡ Some c.space
  pub areas : k.areas ≡ shared

-- the bytes of buffers of which each may be read
-- write(2), writev(2), EFAULT
abbrev pub IsGathered : List IoVec → (own : AddressSpace) → Kernel → (bytes : List ℕ) → Type 0
IsGathered buffers own k bytes =
    (outcome_in (parts k) (gathered own buffers) ≡ Some bytes) × (length bytes ≡ total_of buffers)

-- a write from buffers, all of whose bytes are tested before
-- write(2), writev(2), EFAULT
abbrev pub writes_from : Caller → Description → List IoVec → Prog Answer
writes_from c d buffers =
    gathered c.space buffers >>= or_refuse EFAULT (λ bytes. writes_of d.nonblock bytes d.object)

-- a task at a call that reads or writes, in a kernel: with its number and table, with memory and what is open as they
-- are, and with so many bytes on the console
-- syscall(2); profile
pub record IsMoving (c : Caller) (k : Kernel) (context : Context) (own : AddressSpace) (shared : NamedMap AreaState)
    (open_files : OpenFiles) (taken : ℕ) : Type 0 where
  pub task : c.task ≡ context.task
  pub table : c.table ≡ context.table
  pub memory : HasMemory c k own shared
  pub files : k.files ≡ open_files
  pub console : length k.console ≡ taken

-- the same with what is open by one open file alone: a read by a task with that number, and a write
-- read(2), write(2); profile
pub record IsReading (c : Caller) (k : Kernel) (context : Context) (own : AddressSpace) (shared : NamedMap AreaState)
    (opened : FileInHand) : Type 0 where
  pub task : c.task ≡ context.task
  pub memory : HasMemory c k own shared
  pub pipe : HasPipe opened.file.description.object k.files (option_copied opened.pipe)

pub record IsWriting (c : Caller) (k : Kernel) (own : AddressSpace) (shared : NamedMap AreaState)
    (opened : FileInHand) (taken : ℕ) : Type 0 where
  pub memory : HasMemory c k own shared
  pub pipe : HasPipe opened.file.description.object k.files (option_copied opened.pipe)
  pub console : length k.console ≡ taken

-- what is open has the pipe of an open file, where one was handed in
-- pipe(2), DESCRIPTION
abbrev pub HasPipeOf : Option FileInHand → OpenFiles → Type 0
HasPipeOf None files = ⊤
HasPipeOf (Some opened) files = HasPipe opened.file.description.object files (option_copied opened.pipe)

-- a row comes to a reply, and to the transfer beside what memory is then
-- syscall(2)
pub record AnswersTransfer (row : Prog Answer) (reply : ℤ) (transfer : Transfer) (c : Caller) (k : Kernel)
    (space : AddressSpace) (areas : NamedMap AreaState) : Type 0 where
  pub changes : List Change
  pub row_is : outcome_in (parts k) row ≡ replies reply changes
  pub done_is : changed changes k ≡ after_transfer transfer space (with_memory c space areas k)

-- a row comes to what has become of a call: it replies, or waits, and then memory is as it was
-- read(2), write(2)
abbrev pub Moves : Prog Answer → Transferred → Caller → Kernel → AddressSpace → NamedMap AreaState → Type 0
Moves row (Replies reply transfer) c k space areas = AnswersTransfer row reply transfer c k space areas
Moves row (Waits pipe) c k space areas =
    (outcome_in (parts k) row ≡ not_ready) × (space ≡ c.space) × (areas ≡ k.areas)
