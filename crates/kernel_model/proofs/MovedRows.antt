-- The rows of pipe2, read, write, readv and writev change no node.
use Rattle.std.proofs.Common.{ℕ, Bool, true, false, cond, List, [], ◌∷◌, ◌++◌, length, Option, Some, None}
use Rattle.std.proofs.Common.{inl, inr, pos}
use Rattle.std.specs.Prelude.{◌+◌, ◌-◌, ◌*◌, ◌^◌, ◌==◌, min, nat_le, nat_lt, not, take}
use Rattle.std.specs.FinMap as map
use Rattle.sn_errno.specs.declared.errno.Errno.TheVariants.{EBADF, EFAULT, EINVAL, EMFILE, ENOSPC}
use Rattle.sn_errno.specs.declared.errno.Errno.TheVariants.{ENOSYS, EPIPE}
use Rattle.fd_table.specs.Flags.{may_read, may_write}
use Rattle.fd_table.specs.Tables.{Table}
use Rattle.fd_table.specs.declared.description.Description.{Description}
use Rattle.fd_table.specs.declared.description.Object.{Object}
use Rattle.fd_table.specs.declared.description.Object.TheVariants as object
use Rattle.fd_table.specs.declared.flags.AccessMode.{AccessMode}
use Rattle.mm_space.specs.Accesses.{writable}
use Rattle.mm_space.specs.Handed.{InHand}
use Rattle.mm_space.specs.Spaces.{Reach}
use Rattle.pipe_core.specs.Pipes.{PipeState, after_read, after_write, room_in, room_wanted}
use Rattle.sn_base.specs.declared.made.Made.{Made}
use Rattle.stat_layout.specs.IoVecs.{iovecs_in, total_of}
use Rattle.stat_layout.specs.declared.iovec.IoVec.{IoVec}
use Rattle.kernel_model.specs.declared.caller.Caller.{Caller}
use Rattle.kernel_model.specs.declared.kernel.Part.TheVariants.{OfConsole, OfDescription, OfPipe, OfTable}
use Rattle.kernel_model.specs.calls.Answers.{Answer, refuses, replies}
use Rattle.kernel_model.specs.calls.Callers.{Context}
use Rattle.kernel_model.specs.calls.Lookups.{descriptor, if_may, opened_for, or_refuse, with_file, with_callers_table}
use Rattle.kernel_model.specs.calls.Pipes.{are_pipe_flags, pipe2_of, pipe_made, two_free, two_ints}
use Rattle.kernel_model.specs.calls.ReadWrite.{appended, from_pipe, is_awaited, moved, put_into, read_row, reads}
use Rattle.kernel_model.specs.calls.ReadWrite.{reads_into, reads_of, readv_row, to_pipe, waits, write_row, writes}
use Rattle.kernel_model.specs.calls.ReadWrite.{writes_of, writev_row}
use Rattle.kernel_model.specs.calls.Vectors.{are_accessible, cut, gathered, if_countable, one_buffer, scattered}
use Rattle.kernel_model.specs.calls.Vectors.{with_buffers}
use Rattle.kernel_model.specs.entries.Areas.{access_row, bytes_read, written_with}
use Rattle.kernel_model.specs.entries.Parts.{Parts, Prog, done, outcome_in, Change}
use Rattle.kernel_model.proofs.LeftNodes.{Leaves, LeavesNodes, behind_leaves, either_leaves, found_leaves}
use Rattle.kernel_model.proofs.LeftNodes.{leaves-append, reach_leaves, refused_leaves, told_leaves}

module _ (s : Parts) where
  -- what is open under a descriptor, where its access lets the caller do so
  opened_leaves : (may : AccessMode → Bool) (c : Caller) (fd : ℕ) (row : Description → Prog Answer)
      → ((d : Description) → Leaves s (row d)) → Leaves s (opened_for may c fd row)
  opened_leaves may c fd row each ino is =
      found_leaves s EBADF (λ t. or_refuse EBADF (λ d. with_file d.description (if_may may row))
      (map.get t (descriptor fd)))
      (λ t. found_leaves s EBADF (λ d. with_file d.description (if_may may row))
      (λ d. λ ino is. at_file d.description ino is) (map.get t (descriptor fd))) (s (OfTable c.table)) ino is
    where
      at_file : (name : Made) → Leaves s (with_file name (if_may may row))
      at_file name ino is =
          found_leaves s EBADF (if_may may row)
          (λ file. either_leaves s (may file.description.access) _ _ (each file.description) (refused_leaves s EBADF))
          (s (OfDescription name)) ino is

  waits_leave : (nonblock : Bool) → Leaves s (done (waits nonblock))
  waits_leave true ino is = is
  waits_leave false ino is = is

  pipe_leaves : (name : Made) (content : Option PipeState) → LeavesNodes ((OfPipe name, content) ∷ [])
  pipe_leaves name content ino (inl e) = absurd (cc e)
  pipe_leaves name content ino (inr is) = is

  -- the buffers of records
  buffers_leave : (c : Caller) (at count : ℕ) (row : List IoVec → Prog Answer)
      → ((buffers : List IoVec) → Leaves s (row buffers)) → Leaves s (with_buffers c at count row)
  buffers_leave c at count row each =
      either_leaves s (nat_lt 1024 count) _ _ (refused_leaves s EINVAL)
      (behind_leaves s (bytes_read c.space at (16 * count)) _
      (found_leaves s EFAULT (λ records. if_countable row (iovecs_in records))
      (λ records. either_leaves s (nat_lt (2 ^ 63 - 1) (total_of (iovecs_in records))) _ _ (refused_leaves s EINVAL)
      (each (iovecs_in records))) (outcome_in s (bytes_read c.space at (16 * count)))))

  -- ---- what is read changes a pipe, an address space and areas

  moved_leaves : (c : Caller) (count : ℕ) (changes : List Change) → LeavesNodes changes → (reach : Option Reach)
      → LeavesNodes (moved c count changes reach).changes
  moved_leaves c count changes none None = λ ino is. is
  moved_leaves c count changes none (Some reach) =
      leaves-append changes _ none (reach_leaves c.memory reach)

  put_leaves : (c : Caller) (buffers : List IoVec) (bytes : List ℕ) (changes : List Change) → LeavesNodes changes
      → Leaves s (put_into c buffers bytes changes)
  put_leaves c buffers bytes changes none =
      behind_leaves s (scattered c.task c.space bytes buffers) _
      (moved_leaves c (length bytes) changes none
      (outcome_in s (scattered c.task c.space bytes buffers)))

  from_pipe_leaves : (c : Caller) (nonblock : Bool) (buffers : List IoVec) (name : Made) (pipe : PipeState)
      → Leaves s (from_pipe c nonblock buffers name pipe)
  from_pipe_leaves c nonblock buffers name pipe =
      either_leaves s (is_awaited pipe) _ _ (waits_leave nonblock)
      (put_leaves c buffers (take (total_of buffers) pipe.bytes)
      ((OfPipe name, Some (after_read pipe (total_of buffers))) ∷ [])
      (pipe_leaves name (Some (after_read pipe (total_of buffers)))))

  read_leaves_of : (c : Caller) (nonblock : Bool) (buffers : List IoVec) (o : Object)
      → Leaves s (reads_of c nonblock buffers o)
  read_leaves_of c nonblock buffers (object.Node n) = refused_leaves s ENOSYS
  read_leaves_of c nonblock buffers (object.PipeEnd name side) = λ ino is.
      found_leaves s EBADF (from_pipe c nonblock buffers name) (from_pipe_leaves c nonblock buffers name)
      (s (OfPipe name)) ino is
  read_leaves_of c nonblock buffers object.Console = told_leaves s (pos 0)
  read_leaves_of c nonblock buffers object.EmptyInput = told_leaves s (pos 0)

  reads_into_leave : (c : Caller) (d : Description) (buffers : List IoVec) → Leaves s (reads_into c d buffers)
  reads_into_leave c d buffers =
      behind_leaves s (are_accessible writable c.space buffers) _
      (either_leaves s (outcome_in s (are_accessible writable c.space buffers)) _ _
      (read_leaves_of c d.nonblock buffers d.object) (refused_leaves s EFAULT))

  reads_leave : (c : Caller) (buffers : List IoVec) (d : Description) → Leaves s (reads c buffers d)
  reads_leave c buffers d =
      either_leaves s (total_of buffers == 0) _ _ (told_leaves s (pos 0)) (reads_into_leave c d (cut 65536 buffers))

  pub read_leaves : (fd buffer count : ℕ) (c : Caller) → Leaves s (read_row fd buffer count c)
  read_leaves fd buffer count c = opened_leaves may_read c fd _ (reads_leave c (one_buffer buffer count))

  pub readv_leaves : (fd records count : ℕ) (c : Caller) → Leaves s (readv_row fd records count c)
  readv_leaves fd records count c =
      opened_leaves may_read c fd _
      (λ d. buffers_leave c records count (λ buffers. reads c buffers d) (λ buffers. reads_leave c buffers d))

  -- ---- what is written changes a pipe or the console

  appended_leaves : (bytes console : List ℕ) → LeavesNodes (appended bytes console).changes
  appended_leaves bytes console = by (nat_le (length console + length bytes) 1048576)
    where
      by : (b : Bool) → LeavesNodes (cond b (replies (pos (length bytes)) ((OfConsole, console ++ bytes) ∷ []))
          (refuses ENOSPC)).changes
      by true ino (inl e) = absurd (cc e)
      by true ino (inr is) = is
      by false ino is = is

  to_pipe_leaves : (nonblock : Bool) (bytes : List ℕ) (name : Made) (pipe : PipeState)
      → LeavesNodes (to_pipe nonblock bytes name pipe).changes
  to_pipe_leaves nonblock bytes name pipe = by (pipe.readers == 0) (nat_lt (room_in pipe) (room_wanted (length bytes)))
    where
      by : (broken full : Bool) → LeavesNodes (cond broken (refuses EPIPE) (cond full (waits nonblock)
          (replies (pos (min (length bytes) (room_in pipe)))
          ((OfPipe name, Some (after_write pipe (take (room_in pipe) bytes))) ∷ [])))).changes
      by true full = λ ino is. is
      by false true = waits_leave nonblock
      by false false = pipe_leaves name (Some (after_write pipe (take (room_in pipe) bytes)))

  write_leaves_of : (nonblock : Bool) (bytes : List ℕ) (o : Object) → Leaves s (writes_of nonblock bytes o)
  write_leaves_of nonblock bytes (object.Node n) = refused_leaves s ENOSYS
  write_leaves_of nonblock bytes (object.PipeEnd name side) = λ ino is.
      found_leaves s EBADF (λ pipe. done (to_pipe nonblock bytes name pipe)) (to_pipe_leaves nonblock bytes name)
      (s (OfPipe name)) ino is
  write_leaves_of nonblock bytes object.Console = λ ino is. appended_leaves bytes (s OfConsole) ino is
  write_leaves_of nonblock bytes object.EmptyInput = λ ino is. appended_leaves bytes (s OfConsole) ino is

  writes_leave : (c : Caller) (buffers : List IoVec) (d : Description) → Leaves s (writes c buffers d)
  writes_leave c buffers d =
      either_leaves s (total_of buffers == 0) _ _ (told_leaves s (pos 0))
      (behind_leaves s (gathered c.space (cut 65536 buffers)) _
      (found_leaves s EFAULT (λ bytes. writes_of d.nonblock bytes d.object)
      (λ bytes. write_leaves_of d.nonblock bytes d.object)
      (outcome_in s (gathered c.space (cut 65536 buffers)))))

  pub write_leaves : (fd buffer count : ℕ) (c : Caller) → Leaves s (write_row fd buffer count c)
  write_leaves fd buffer count c = opened_leaves may_write c fd _ (writes_leave c (one_buffer buffer count))

  pub writev_leaves : (fd records count : ℕ) (c : Caller) → Leaves s (writev_row fd records count c)
  writev_leaves fd records count c =
      opened_leaves may_write c fd _
      (λ d. buffers_leave c records count (λ buffers. writes c buffers d) (λ buffers. writes_leave c buffers d))

  -- ---- pipes that are made change a pipe, descriptions, a table, an address space and areas

  module _ (context : Context) (c : Caller) (buffer flags : ℕ) where
    pipe_made_leaves : (hand : List InHand) (table : Table) (fds : ℕ × ℕ)
        → LeavesNodes (pipe_made context c buffer flags hand table fds).changes
    pipe_made_leaves hand table fds ino (inl e) = absurd (cc e)
    pipe_made_leaves hand table fds ino (inr (inl e)) = absurd (cc e)
    pipe_made_leaves hand table fds ino (inr (inr (inl e))) = absurd (cc e)
    pipe_made_leaves hand table fds ino (inr (inr (inr (inl e)))) = absurd (cc e)
    pipe_made_leaves hand table fds ino (inr (inr (inr (inr is)))) =
        reach_leaves c.memory (written_with c.task c.space buffer (two_ints fds) hand) ino is

    abbrev in_table : List InHand → Table → Prog Answer
    in_table hand table =
        or_refuse EMFILE (λ fds. done (pipe_made context c buffer flags hand table fds)) (two_free table)

    in_table_leaves : (hand : List InHand) (table : Table) → Leaves s (in_table hand table)
    in_table_leaves hand table =
        found_leaves s EMFILE (λ fds. done (pipe_made context c buffer flags hand table fds))
        (pipe_made_leaves hand table) (two_free table)

    hand_leaves : (hand : List InHand) → Leaves s (with_callers_table c (in_table hand))
    hand_leaves hand ino is =
        found_leaves s EBADF (in_table hand) (in_table_leaves hand) (s (OfTable c.table)) ino is

    pub pipe2_leaves : Leaves s (pipe2_of context c buffer flags)
    pipe2_leaves =
        either_leaves s (not (are_pipe_flags flags)) _ _ (refused_leaves s EINVAL)
        (behind_leaves s (access_row writable c.space buffer 8) _
        (found_leaves s EFAULT (λ hand. with_callers_table c (in_table hand)) hand_leaves
        (outcome_in s (access_row writable c.space buffer 8))))
