-- read, write, readv and writev, on pipes, the console and the empty input.
use Rattle.std.specs.Prelude.{ℕ, ◌+◌, ◌==◌, ◌&&◌, nat_le, nat_lt, min, not, Bool, List, [], ◌∷◌, ◌++◌, length, take}
use Rattle.std.specs.Prelude.{Option, Some, None, pos, if◌then◌else◌}
use Rattle.sn_errno.specs.declared.errno.Errno.TheVariants.{EAGAIN, EBADF, EFAULT, ENOSPC, ENOSYS, EPIPE}
use Rattle.fd_table.specs.Flags.{may_read, may_write}
use Rattle.fd_table.specs.declared.description.Description.{Description}
use Rattle.fd_table.specs.declared.description.Object.{Object}
use Rattle.fd_table.specs.declared.description.Object.TheVariants.{Node, PipeEnd, Console, EmptyInput}
use Rattle.pipe_core.specs.Pipes.{PipeState, after_read, after_write, room_in, room_wanted}
use Rattle.sn_base.specs.declared.made.Made.{Made}
use Rattle.mm_space.specs.Accesses.{writable}
use Rattle.mm_space.specs.Spaces.{Reach}
use Rattle.stat_layout.specs.IoVecs.{total_of}
use Rattle.stat_layout.specs.declared.iovec.IoVec.{IoVec}
use Rattle.kernel_model.specs.declared.caller.Caller.{Caller}
use Rattle.kernel_model.specs.declared.kernel.Part.TheVariants.{OfConsole, OfPipe}
use Rattle.kernel_model.specs.declared.limits.TheConstants.{CONSOLE_ROOM, MOST_MOVED}
use Rattle.kernel_model.specs.calls.Answers.{Answer, not_ready, refuses, replies}
use Rattle.kernel_model.specs.calls.Lookups.{opened_for, or_refuse}
use Rattle.kernel_model.specs.calls.Vectors.{are_accessible, cut, gathered, one_buffer, scattered, with_buffers}
use Rattle.kernel_model.specs.entries.Areas.{reach_changes}
use Rattle.kernel_model.specs.entries.Given.{has_any}
use Rattle.kernel_model.specs.entries.Parts.{Change, Prog, done, look, ◌>>=◌}

-- a call that can't go on yet: it waits, or with O_NONBLOCK it is refused
-- read(2), write(2), EAGAIN
abbrev pub waits : (nonblock : Bool) → Answer
waits nonblock = if nonblock then refuses EAGAIN else not_ready

-- ---- what is read

-- bytes that were read are put into the buffers, and their number is the reply
-- readv(2), DESCRIPTION and RETURN VALUE
abbrev pub moved : Caller → (count : ℕ) → List Change → Option Reach → Answer
moved c count changes None = refuses EFAULT
moved c count changes (Some reach) = replies (pos count) (changes ++ reach_changes c.memory reach)

abbrev pub put_into : Caller → List IoVec → List ℕ → List Change → Prog Answer
put_into c buffers bytes changes =
    scattered c.task c.space bytes buffers >>= λ reach. done (moved c (length bytes) changes reach)

-- a pipe's oldest bytes, as many as are there and fit; none where no write end is left
-- pipe(7), I/O on pipes and FIFOs
abbrev pub is_awaited : PipeState → Bool
is_awaited pipe = not (has_any pipe.bytes) && nat_lt 0 pipe.writers

abbrev pub from_pipe : Caller → (nonblock : Bool) → List IoVec → Made → PipeState → Prog Answer
from_pipe c nonblock buffers name pipe =
    if is_awaited pipe
    then done (waits nonblock)
    else put_into c buffers (take (total_of buffers) pipe.bytes)
    ((OfPipe name, Some (after_read pipe (total_of buffers))) ∷ [])

-- what is read of an object; the console and the empty input are at their end, and no node is open so far
-- read(2), DESCRIPTION; profile
abbrev pub reads_of : Caller → (nonblock : Bool) → List IoVec → Object → Prog Answer
reads_of c nonblock buffers (Node ino) = done (refuses ENOSYS)
reads_of c nonblock buffers (PipeEnd name side) =
    look (OfPipe name) (or_refuse EBADF (from_pipe c nonblock buffers name))
reads_of c nonblock buffers Console = done (replies (pos 0) [])
reads_of c nonblock buffers EmptyInput = done (replies (pos 0) [])

-- a read into buffers: none of no bytes; all that may be moved are tested before
-- read(2), readv(2), ERRORS: EFAULT, EAGAIN; their order, and that 0 comes before them: profile
abbrev pub reads_into : Caller → Description → List IoVec → Prog Answer
reads_into c d buffers =
    are_accessible writable c.space buffers
    >>= λ all. if all then reads_of c d.nonblock buffers d.object else done (refuses EFAULT)

abbrev pub reads : Caller → List IoVec → Description → Prog Answer
reads c buffers d =
    if total_of buffers == 0 then done (replies (pos 0) []) else reads_into c d (cut MOST_MOVED buffers)

-- ---- what is written

-- bytes that come behind those of a console: it takes all of them, where it has room for them, or none
-- write(2), ENOSPC; the room: profile
abbrev pub appended : List ℕ → List ℕ → Answer
appended bytes console =
    if nat_le (length console + length bytes) CONSOLE_ROOM
    then replies (pos (length bytes)) ((OfConsole, console ++ bytes) ∷ [])
    else refuses ENOSPC

-- bytes behind those of a pipe, as many as fit: all of up to 4,096, and at least one of more
-- pipe(7), PIPE_BUF; write(2), EPIPE; that no signal comes with it: profile
abbrev pub to_pipe : (nonblock : Bool) → List ℕ → Made → PipeState → Answer
to_pipe nonblock bytes name pipe =
    if pipe.readers == 0 then refuses EPIPE
    else if nat_lt (room_in pipe) (room_wanted (length bytes)) then waits nonblock
    else replies (pos (min (length bytes) (room_in pipe)))
    ((OfPipe name, Some (after_write pipe (take (room_in pipe) bytes))) ∷ [])

-- what is written to an object; the empty input is as the console, and no node is open so far
-- write(2), DESCRIPTION; profile
abbrev pub writes_of : (nonblock : Bool) → List ℕ → Object → Prog Answer
writes_of nonblock bytes (Node ino) = done (refuses ENOSYS)
writes_of nonblock bytes (PipeEnd name side) =
    look (OfPipe name) (or_refuse EBADF (λ pipe. done (to_pipe nonblock bytes name pipe)))
writes_of nonblock bytes Console = look OfConsole (λ console. done (appended bytes console))
writes_of nonblock bytes EmptyInput = look OfConsole (λ console. done (appended bytes console))

-- a write from buffers: none of no bytes; all that may be moved are tested before
-- write(2), writev(2), ERRORS: EFAULT, EPIPE, EAGAIN, ENOSPC; their order, and that 0 comes before them: profile
abbrev pub writes : Caller → List IoVec → Description → Prog Answer
writes c buffers d =
    if total_of buffers == 0
    then done (replies (pos 0) [])
    else gathered c.space (cut MOST_MOVED buffers)
    >>= or_refuse EFAULT (λ bytes. writes_of d.nonblock bytes d.object)

-- ---- the calls

-- read(fd, buffer, count), write(fd, buffer, count), by what is open
-- read(2), write(2), ERRORS: EBADF first
abbrev pub read_row : (fd buffer count : ℕ) → Caller → Prog Answer
read_row fd buffer count c = opened_for may_read c fd (reads c (one_buffer buffer count))

abbrev pub write_row : (fd buffer count : ℕ) → Caller → Prog Answer
write_row fd buffer count c = opened_for may_write c fd (writes c (one_buffer buffer count))

-- readv(fd, records, count), writev(fd, records, count): as one buffer
-- readv(2), ERRORS: EBADF, EINVAL, EFAULT, EINVAL; their order: profile
abbrev pub readv_row : (fd records count : ℕ) → Caller → Prog Answer
readv_row fd records count c =
    opened_for may_read c fd (λ d. with_buffers c records count (λ buffers. reads c buffers d))

abbrev pub writev_row : (fd records count : ℕ) → Caller → Prog Answer
writev_row fd records count c =
    opened_for may_write c fd (λ d. with_buffers c records count (λ buffers. writes c buffers d))
