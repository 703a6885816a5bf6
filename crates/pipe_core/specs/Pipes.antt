-- A pipe: its bytes and its ends, when a read or a write waits, and the pipe after each.
use Rattle.std.specs.Prelude.{◌≡◌, ℕ, ◌-◌, ◌<◌, nat_le, if◌then◌else◌, List, [], ◌++◌, length, drop}
use Rattle.pipe_core.specs.declared.pipe.TheConstants.{ATOMIC}
use Rattle.pipe_core.specs.declared.pipe.PipeWrite.{PipeWrite}
use Rattle.pipe_core.specs.declared.pipe.PipeWrite.TheVariants.{Put, Wait, Broken}
use Rattle.pipe_core.specs.declared.ring.TheConstants.{CAPACITY}

-- the bytes that were written and not yet read, oldest first, and how many read and write ends are open
-- pipe(7), I/O on pipes and FIFOs
pub record PipeState : Type 0 where
  pub bytes : List ℕ
  pub readers : ℕ
  pub writers : ℕ

-- a pipe as it is made: nothing in it, and one end of each kind
-- pipe(2), DESCRIPTION
abbrev pub new_pipe : PipeState
new_pipe = record { bytes = []; readers = 1; writers = 1 }

-- how many bytes the pipe takes until it is full
-- pipe(7), Pipe capacity
abbrev pub room_in : PipeState → ℕ
room_in pipe = CAPACITY - length pipe.bytes

-- the room without which a write of so many bytes waits: for all of up to PIPE_BUF, and for one byte of more
-- pipe(7), PIPE_BUF; that a longer write puts what fits now: profile
abbrev pub room_wanted : (count : ℕ) → ℕ
room_wanted count = if nat_le count ATOMIC then count else 1

-- a read of so many bytes waits: it wants some, none are there, and some write end could bring them
-- pipe(7), I/O on pipes and FIFOs; read(2), DESCRIPTION: a count of zero
abbrev pub ReadWaits : PipeState → (count : ℕ) → Type 0
ReadWaits pipe count = (0 < count) × (pipe.bytes ≡ []) × (0 < pipe.writers)

-- a write of so many bytes waits: somebody could read them, and they have no room yet
-- pipe(7), I/O on pipes and FIFOs; pipe(7), PIPE_BUF
abbrev pub WriteWaits : PipeState → (count : ℕ) → Type 0
WriteWaits pipe count = (0 < pipe.readers) × (room_in pipe < room_wanted count)

-- how many bytes a write has put
-- write(2), RETURN VALUE
abbrev pub count_put : PipeWrite → ℕ
count_put (Put count) = count
count_put Wait = 0
count_put Broken = 0

-- the pipe after its first bytes were read
-- pipe(7), I/O on pipes and FIFOs
abbrev pub after_read : PipeState → (count : ℕ) → PipeState
after_read pipe count = record { bytes = drop count pipe.bytes; readers = pipe.readers; writers = pipe.writers }

-- the pipe after bytes were put behind the others
-- pipe(7), I/O on pipes and FIFOs
abbrev pub after_write : PipeState → List ℕ → PipeState
after_write pipe bytes = record { bytes = pipe.bytes ++ bytes; readers = pipe.readers; writers = pipe.writers }

-- the pipe with other numbers of ends
-- pipe(7), I/O on pipes and FIFOs
abbrev pub with_ends : PipeState → (readers writers : ℕ) → PipeState
with_ends pipe readers writers = record { bytes = pipe.bytes; readers = readers; writers = writers }
