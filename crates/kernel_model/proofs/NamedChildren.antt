-- No row of a call names a child: none is walked to, listed or made so far.
use Rattle.std.proofs.Common.{◌≡◌, ℕ, Bool, true, false, cond, List, [], ◌∷◌, ◌++◌, Option, Some, None, refl, ap, ◌∙◌}
use Rattle.std.specs.Prelude.{◌%◌, ◌^◌, ◌+◌, ◌*◌, ◌-◌, ◌==◌, ◌&&◌, ◌||◌, nat_lt, nat_le, not, min, length, pos, take}
use Rattle.std.specs.FinMap as map
use Rattle.std.specs.Int.{from_le_bytes, to_le_bytes, w32}
use Rattle.sn_errno.specs.declared.calls.CallNo.{CallNo}
use Rattle.sn_errno.specs.declared.calls.CallNo.TheVariants.{Dup, Dup3, Fcntl, Ioctl, Close, Pipe2, Lseek, Read, Write}
use Rattle.sn_errno.specs.declared.calls.CallNo.TheVariants.{Readv, Writev, Pread64, Pwrite64, Exit, ExitGroup, Futex}
use Rattle.sn_errno.specs.declared.calls.CallNo.TheVariants.{Clone, Wait4, ClockGettime, Uname, Munmap, Mmap, Mprotect}
use Rattle.sn_errno.specs.declared.calls.CallNo.TheVariants.{Getrandom}
use Rattle.sn_errno.specs.declared.errno.Errno.{Errno}
use Rattle.sn_errno.specs.declared.errno.Errno.TheVariants.{EBADF, EFAULT, EMFILE, ENOSPC, EPIPE}
use Rattle.sn_errno.specs.Calls.{call_numbered}
use Rattle.fd_table.specs.Flags.{may_read, may_write}
use Rattle.fd_table.specs.Tables.{Table, with_mark}
use Rattle.fd_table.specs.declared.description.Description.{Description}
use Rattle.fd_table.specs.declared.description.Object.{Object}
use Rattle.fd_table.specs.declared.description.Object.TheVariants as object
use Rattle.fd_table.specs.declared.descriptor.Descriptor.{Descriptor}
use Rattle.fd_table.specs.declared.flags.AccessMode.{AccessMode}
use Rattle.pipe_core.specs.Pipes.{PipeState, after_read, after_write, room_in, room_wanted}
use Rattle.sn_base.specs.declared.made.Made.{Made}
use Rattle.mm_areas.specs.Mappings.{unmap_fault}
use Rattle.mm_space.specs.Accesses.{writable}
use Rattle.mm_space.specs.Handed.{InHand}
use Rattle.mm_space.specs.Spaces.{AddressSpace, Reach, unreserved}
use Rattle.stat_layout.specs.IoVecs.{iovecs_in, total_of}
use Rattle.stat_layout.specs.declared.iovec.IoVec.{IoVec}
use Rattle.task_table.specs.declared.task.ReapEnd.{ReapEnd}
use Rattle.task_table.specs.declared.task.ReapEnd.TheVariants.{Reaped, NotYet, NoChild}
use Rattle.task_table.specs.declared.task.Status.{Status}
use Rattle.task_table.specs.declared.task.Status.TheVariants.{Exited}
use Rattle.task_table.specs.Reaps.{reap_end}
use Rattle.task_table.specs.Status.{status_number}
use Rattle.task_table.specs.Table.{TaskTable}
use Rattle.kernel_model.specs.declared.caller.Caller.{Caller}
use Rattle.kernel_model.specs.declared.entry.Args.{Args}
use Rattle.kernel_model.specs.declared.kernel.Part.TheVariants.{OfConsole, OfDescription, OfPipe, OfTable, OfTasks}
use Rattle.kernel_model.specs.declared.open_files.OpenFile.{OpenFile}
use Rattle.kernel_model.specs.machine.FutexWords.{key_at}
use Rattle.kernel_model.specs.machine.Random.{random_at}
use Rattle.kernel_model.specs.calls.Answers.{Answer, refuses, replies}
use Rattle.kernel_model.specs.calls.Buffers.{fills, filled}
use Rattle.kernel_model.specs.calls.Callers.{Context}
use Rattle.kernel_model.specs.calls.Clone.{Cloning, caller_word, clone_of, cloning_of, is_full, is_process, is_thread}
use Rattle.kernel_model.specs.calls.Clone.{made_for_child, process_by, process_row, process_with, sets_child_word}
use Rattle.kernel_model.specs.calls.Clone.{thread_by, thread_made, thread_row, word_set}
use Rattle.kernel_model.specs.calls.Descriptors.{by_command, close_row, dup3_row, dup_row, dupfd_of, fcntl_row, gives}
use Rattle.kernel_model.specs.calls.Descriptors.{gives_at, ioctl_row, is_cloexec_or_none, is_possible, leaves_table}
use Rattle.kernel_model.specs.calls.Descriptors.{opens_from, replaced, sets_status, tells_status}
use Rattle.kernel_model.specs.calls.Ending.{ends_with, group_end, task_end}
use Rattle.kernel_model.specs.calls.Futex.{by_word, futex_of, is_wait, is_wake, sleeps_on, wakes_on}
use Rattle.kernel_model.specs.calls.Identity.{utsname}
use Rattle.kernel_model.specs.calls.Lookups.{descriptor, if_may, lowest_free, opened_for, or_refuse}
use Rattle.kernel_model.specs.calls.Lookups.{with_callers_table, with_descriptor, with_file}
use Rattle.kernel_model.specs.calls.Memory.{fault_errno, file_refusal, map_refusal, maps, mmap_row, protect_refusal}
use Rattle.kernel_model.specs.calls.Memory.{unless_refused}
use Rattle.kernel_model.specs.calls.Pipes.{are_pipe_flags, pipe2_of, pipe_made, two_free}
use Rattle.kernel_model.specs.calls.ReadWrite.{appended, from_pipe, is_awaited, moved, put_into, read_row, readv_row}
use Rattle.kernel_model.specs.calls.ReadWrite.{reads, reads_into, reads_of, to_pipe, waits, write_row, writes}
use Rattle.kernel_model.specs.calls.ReadWrite.{writes_of, writev_row}
use Rattle.kernel_model.specs.calls.Seek.{lseek_row, positioned, pread64_row, pwrite64_row}
use Rattle.kernel_model.specs.calls.Table.{call_row, row_if_known, row_of_call}
use Rattle.kernel_model.specs.calls.Time.{time_at, timespec}
use Rattle.kernel_model.specs.calls.Vectors.{are_accessible, cut, gathered, if_countable, one_buffer, scattered}
use Rattle.kernel_model.specs.calls.Vectors.{with_buffers}
use Rattle.kernel_model.specs.calls.Wait.{asked_child, by_child, is_child_asked, is_option, reaps, wait4_of}
use Rattle.kernel_model.specs.descriptors.Counts.{counted, dropped, table_copied}
use Rattle.kernel_model.specs.entries.Areas.{access_row, bytes_read, bytes_written}
use Rattle.kernel_model.specs.entries.InTurn.{followed}
use Rattle.kernel_model.specs.entries.Parts.{Change, Parts, Prog, done, outcome_in, ◌>>=◌}
use Rattle.kernel_model.proofs.Trees.{outcome-bind}

module _ (s : Parts) where
  abbrev NamesNone : Prog Answer → Type 0
  NamesNone row = (outcome_in s row).fresh ≡ []

  either : (b : Bool) (x y : Prog Answer) → NamesNone x → NamesNone y → NamesNone (cond b x y)
  either true x y here there = here
  either false x y here there = there

  behind : {A : Type 0} (first : Prog A) (next : A → Prog Answer) → NamesNone (next (outcome_in s first))
      → NamesNone (first >>= next)
  behind first next h = ap (λ (a : Answer). a.fresh) (outcome-bind s first next) ∙ h

  -- what is there goes on
  found : {A : Type 0} (errno : Errno) (row : A → Prog Answer) → ((x : A) → NamesNone (row x)) → (o : Option A)
      → NamesNone (or_refuse errno row o)
  found errno row each None = refl
  found errno row each (Some x) = each x

  -- ---- descriptors

  at_file : (row : OpenFile → Prog Answer) → ((file : OpenFile) → NamesNone (row file)) → (name : Made)
      → NamesNone (with_file name row)
  at_file row each name = found EBADF row each (s (OfDescription name))

  -- a changed table behind a piece
  behind_piece : (piece : Prog (List Change)) (c : Caller) (reply : ℕ) (table : Table)
      → NamesNone (piece >>= λ changes. done (leaves_table c reply table changes))
  behind_piece piece c reply table = behind piece (λ changes. done (leaves_table c reply table changes)) refl

  module _ (c : Caller) where
    at_descriptor : (row : Table → Descriptor → Prog Answer) → ((t : Table) (d : Descriptor) → NamesNone (row t d))
        → (fd : ℕ) → NamesNone (with_descriptor c fd row)
    at_descriptor row each fd =
        found EBADF (λ t. or_refuse EBADF (row t) (map.get t (descriptor fd)))
        (λ t. found EBADF (row t) (each t) (map.get t (descriptor fd))) (s (OfTable c.table))

    gives_none : (cloexec : Bool) (t : Table) (d : Descriptor) (number : ℕ) → NamesNone (gives c cloexec t d number)
    gives_none cloexec t d number =
        behind_piece (followed (counted d.description) (replaced (map.get t number))) c number
        (map.insert t number (with_mark d cloexec))

    opens_none : (from : ℕ) (cloexec : Bool) (t : Table) (d : Descriptor) → NamesNone (opens_from c from cloexec t d)
    opens_none from cloexec t d =
        found EMFILE (gives c cloexec t d) (gives_none cloexec t d) (lowest_free t from)

    dup_none : (fd : ℕ) → NamesNone (dup_row fd c)
    dup_none fd = at_descriptor (opens_from c 0 false) (opens_none 0 false) fd

    dup3_none : (fd number flags : ℕ) → NamesNone (dup3_row fd number flags c)
    dup3_none fd number flags =
        either (not (is_cloexec_or_none (flags % 2 ^ 32)) || (descriptor fd == descriptor number)) _ _ refl
        (at_descriptor (gives_at c (descriptor number) (flags % 2 ^ 32))
        (λ t d. either (is_possible (descriptor number)) _ _ (gives_none _ t d (descriptor number)) refl) fd)

    dupfd_none : (from : ℕ) (cloexec : Bool) (t : Table) (d : Descriptor) → NamesNone (dupfd_of from cloexec c t d)
    dupfd_none from cloexec t d = either (is_possible from) _ _ (opens_none from cloexec t d) refl

    command_none : (command argument fd : ℕ) (t : Table) (d : Descriptor)
        → NamesNone (by_command command argument fd c t d)
    command_none command argument fd t d =
        either (command == 0) _ _ (dupfd_none argument false t d)
        (either (command == 1030) _ _ (dupfd_none argument true t d)
        (either (command == 1) _ _ refl
        (either (command == 2) _ _ refl
        (either (command == 3) _ _ (at_file tells_status (λ file. refl) d.description)
        (either (command == 4) _ _ (at_file (sets_status d argument) (λ file. refl) d.description) refl)))))

    fcntl_none : (fd command argument : ℕ) → NamesNone (fcntl_row fd command argument c)
    fcntl_none fd command argument =
        at_descriptor (by_command (command % 2 ^ 32) (argument % 2 ^ 32) (descriptor fd) c)
        (command_none (command % 2 ^ 32) (argument % 2 ^ 32) (descriptor fd)) fd

    ioctl_none : (fd : ℕ) → NamesNone (ioctl_row fd c)
    ioctl_none fd = at_descriptor _ (λ t d. refl) fd

    close_none : (fd : ℕ) → NamesNone (close_row fd c)
    close_none fd =
        at_descriptor _ (λ t d. behind_piece (dropped d.description) c 0 (map.remove t (descriptor fd))) fd

    positioned_none : (o : Object) → NamesNone (positioned o)
    positioned_none (object.Node ino) = refl
    positioned_none (object.PipeEnd name side) = refl
    positioned_none object.Console = refl
    positioned_none object.EmptyInput = refl

    lseek_none : (fd : ℕ) → NamesNone (lseek_row fd c)
    lseek_none fd =
        at_descriptor _ (λ t d. at_file _ (λ file. positioned_none file.description.object) d.description) fd

    -- what is open under a descriptor, where its access lets the caller do so
    opened_none : (may : AccessMode → Bool) (fd : ℕ) (row : Description → Prog Answer)
        → ((d : Description) → NamesNone (row d)) → NamesNone (opened_for may c fd row)
    opened_none may fd row each =
        at_descriptor _ (λ t d. at_file (if_may may row)
        (λ file. either (may file.description.access) _ _ (each file.description) refl) d.description) fd

    pread64_none : (fd : ℕ) → NamesNone (pread64_row fd c)
    pread64_none fd = opened_none may_read fd (λ d. positioned d.object) (λ d. positioned_none d.object)

    pwrite64_none : (fd : ℕ) → NamesNone (pwrite64_row fd c)
    pwrite64_none fd = opened_none may_write fd (λ d. positioned d.object) (λ d. positioned_none d.object)

    -- ---- reads and writes

    waits_none : (nonblock : Bool) → NamesNone (done (waits nonblock))
    waits_none true = refl
    waits_none false = refl

    buffers_none : (at count : ℕ) (row : List IoVec → Prog Answer) → ((buffers : List IoVec) → NamesNone (row buffers))
        → NamesNone (with_buffers c at count row)
    buffers_none at count row each =
        either (nat_lt 1024 count) _ _ refl
        (behind (bytes_read c.space at (16 * count)) _
        (found EFAULT (λ records. if_countable row (iovecs_in records))
        (λ records. either (nat_lt (2 ^ 63 - 1) (total_of (iovecs_in records))) _ _ refl (each (iovecs_in records)))
        (outcome_in s (bytes_read c.space at (16 * count)))))

    moved_none : (count : ℕ) (changes : List Change) (reach : Option Reach)
        → NamesNone (done (moved c count changes reach))
    moved_none count changes None = refl
    moved_none count changes (Some reach) = refl

    put_none : (buffers : List IoVec) (bytes : List ℕ) (changes : List Change)
        → NamesNone (put_into c buffers bytes changes)
    put_none buffers bytes changes =
        behind (scattered c.task c.space bytes buffers) (λ reach. done (moved c (length bytes) changes reach))
        (moved_none (length bytes) changes (outcome_in s (scattered c.task c.space bytes buffers)))

    from_pipe_none : (nonblock : Bool) (buffers : List IoVec) (name : Made) (pipe : PipeState)
        → NamesNone (from_pipe c nonblock buffers name pipe)
    from_pipe_none nonblock buffers name pipe =
        either (is_awaited pipe) _ _ (waits_none nonblock)
        (put_none buffers (take (total_of buffers) pipe.bytes)
        ((OfPipe name, Some (after_read pipe (total_of buffers))) ∷ []))

    reads_of_none : (nonblock : Bool) (buffers : List IoVec) (o : Object) → NamesNone (reads_of c nonblock buffers o)
    reads_of_none nonblock buffers (object.Node ino) = refl
    reads_of_none nonblock buffers (object.PipeEnd name side) =
        found EBADF (from_pipe c nonblock buffers name) (from_pipe_none nonblock buffers name) (s (OfPipe name))
    reads_of_none nonblock buffers object.Console = refl
    reads_of_none nonblock buffers object.EmptyInput = refl

    reads_into_none : (d : Description) (buffers : List IoVec) → NamesNone (reads_into c d buffers)
    reads_into_none d buffers =
        behind (are_accessible writable c.space buffers) _
        (either (outcome_in s (are_accessible writable c.space buffers)) _ _
        (reads_of_none d.nonblock buffers d.object) refl)

    reads_none : (buffers : List IoVec) (d : Description) → NamesNone (reads c buffers d)
    reads_none buffers d = either (total_of buffers == 0) _ _ refl (reads_into_none d (cut 65536 buffers))

    read_none : (fd buffer count : ℕ) → NamesNone (read_row fd buffer count c)
    read_none fd buffer count = opened_none may_read fd _ (reads_none (one_buffer buffer count))

    readv_none : (fd records count : ℕ) → NamesNone (readv_row fd records count c)
    readv_none fd records count =
        opened_none may_read fd _
        (λ d. buffers_none records count (λ buffers. reads c buffers d) (λ buffers. reads_none buffers d))

    appended_none : (bytes console : List ℕ) → NamesNone (done (appended bytes console))
    appended_none bytes console = by (nat_le (length console + length bytes) 1048576)
      where
        by : (b : Bool) → (cond b (replies (pos (length bytes)) ((OfConsole, console ++ bytes) ∷ []))
            (refuses ENOSPC)).fresh ≡ []
        by true = refl
        by false = refl

    to_pipe_none : (nonblock : Bool) (bytes : List ℕ) (name : Made) (pipe : PipeState)
        → NamesNone (done (to_pipe nonblock bytes name pipe))
    to_pipe_none nonblock bytes name pipe =
        by (pipe.readers == 0) (nat_lt (room_in pipe) (room_wanted (length bytes)))
      where
        by : (broken full : Bool) → (cond broken (refuses EPIPE) (cond full (waits nonblock)
            (replies (pos (min (length bytes) (room_in pipe)))
            ((OfPipe name, Some (after_write pipe (take (room_in pipe) bytes))) ∷ [])))).fresh ≡ []
        by true full = refl
        by false true = waits_none nonblock
        by false false = refl

    writes_of_none : (nonblock : Bool) (bytes : List ℕ) (o : Object) → NamesNone (writes_of nonblock bytes o)
    writes_of_none nonblock bytes (object.Node ino) = refl
    writes_of_none nonblock bytes (object.PipeEnd name side) =
        found EBADF (λ pipe. done (to_pipe nonblock bytes name pipe)) (to_pipe_none nonblock bytes name)
        (s (OfPipe name))
    writes_of_none nonblock bytes object.Console = appended_none bytes (s OfConsole)
    writes_of_none nonblock bytes object.EmptyInput = appended_none bytes (s OfConsole)

    writes_none : (buffers : List IoVec) (d : Description) → NamesNone (writes c buffers d)
    writes_none buffers d =
        either (total_of buffers == 0) _ _ refl
        (behind (gathered c.space (cut 65536 buffers)) _
        (found EFAULT (λ bytes. writes_of d.nonblock bytes d.object)
        (λ bytes. writes_of_none d.nonblock bytes d.object)
        (outcome_in s (gathered c.space (cut 65536 buffers)))))

    write_none : (fd buffer count : ℕ) → NamesNone (write_row fd buffer count c)
    write_none fd buffer count = opened_none may_write fd _ (writes_none (one_buffer buffer count))

    writev_none : (fd records count : ℕ) → NamesNone (writev_row fd records count c)
    writev_none fd records count =
        opened_none may_write fd _
        (λ d. buffers_none records count (λ buffers. writes c buffers d) (λ buffers. writes_none buffers d))

    -- ---- sleepers, children and memory

    word_none : (address operation value : ℕ) (bytes : Option (List ℕ))
        → NamesNone (by_word c address operation value bytes)
    word_none address operation value None = refl
    word_none address operation value (Some bytes) =
        either (is_wait operation) (sleeps_on c.task (key_at c.memory c.space address) (from_le_bytes w32 bytes) value)
        (wakes_on (key_at c.memory c.space address) value)
        (either (from_le_bytes w32 bytes == value) _ _ refl refl) refl

    futex_none : (address operation value timeout : ℕ) → NamesNone (futex_of address operation value timeout c)
    futex_none address operation value timeout =
        either (not (is_wait operation || is_wake operation)) _ _ refl
        (either (not (address % 4 == 0)) _ _ refl
        (either (is_wait operation && not (timeout == 0)) _ _ refl
        (behind (bytes_read c.space address 4) (by_word c address operation value)
        (word_none address operation value (outcome_in s (bytes_read c.space address 4))))))

    module _ (x : Cloning) (list : TaskTable) where
      thread_made_none : (reach : Option Reach) → NamesNone (done (thread_made c x list reach))
      thread_made_none None = refl
      thread_made_none (Some reach) = refl

      thread_by_none : (reach : Option Reach) → NamesNone (thread_by c x list reach)
      thread_by_none None = refl
      thread_by_none (Some reach) =
          behind
          (word_set c.task (sets_child_word x.flags) reach.space reach.hand x.child_word (list.last + 1)) _
          (thread_made_none _)

      thread_none : NamesNone (thread_row c x list)
      thread_none =
          either (is_full list) _ _ refl (behind (caller_word c x list) (thread_by c x list) (thread_by_none _))

      module _ (context : Context) where
        process_with_none : (space : AddressSpace) (reach : Option Reach)
            → NamesNone (process_with context c x list space reach)
        process_with_none space None = refl
        process_with_none space (Some reach) =
            behind (table_copied c.table (made_for_child context.place)) _ refl

        process_by_none : (reach : Option Reach) → NamesNone (process_by context c x list reach)
        process_by_none None = refl
        process_by_none (Some reach) =
            behind
            (word_set c.task (sets_child_word x.flags) (unreserved c.space.mapping) reach.hand x.child_word
            (list.last + 1)) _ (process_with_none reach.space _)

        process_none : NamesNone (process_row context c x list)
        process_none =
            either (is_full list) _ _ refl
            (behind (caller_word c x list) (process_by context c x list) (process_by_none _))

    clone_none : (context : Context) (x : Cloning) → NamesNone (clone_of context c x)
    clone_none context x =
        either (is_process x.flags) _ _ (process_none x (s OfTasks) context)
        (either (is_thread x.flags) _ _ (thread_none x (s OfTasks)) refl)

    reaps_none : (list : TaskTable) (child : ℕ) (status : Status) (reach : Option Reach)
        → NamesNone (done (reaps c list child status reach))
    reaps_none list child status None = refl
    reaps_none list child status (Some reach) = refl

    child_none : (list : TaskTable) (address options : ℕ) (end : ReapEnd)
        → NamesNone (by_child c list address options end)
    child_none list address options NoChild = refl
    child_none list address options NotYet = either (options == 1) _ _ refl refl
    child_none list address options (Reaped child status) =
        either (address == 0) _ _ refl
        (behind (bytes_written c.task c.space address (to_le_bytes w32 (status_number status)))
        (λ reach. done (reaps c list child status reach)) (reaps_none list child status _))

    wait_none : (child address options usage : ℕ) → NamesNone (wait4_of child address options usage c)
    wait_none child address options usage =
        either (is_child_asked child && is_option options && (usage == 0)) _ _
        (child_none (s OfTasks) address options (reap_end (s OfTasks).groups c.group (asked_child child))) refl

    unless_none : (refusal : Option Errno) (answer : Answer) → answer.fresh ≡ []
        → (unless_refused refusal answer).fresh ≡ []
    unless_none None answer h = h
    unless_none (Some errno) answer h = refl

    filled_none : (reply : ℕ) (reach : Option Reach) → NamesNone (done (filled c.memory reply reach))
    filled_none reply None = refl
    filled_none reply (Some reach) = refl

    fill_none : (at : ℕ) (bytes : List ℕ) (reply : ℕ) → NamesNone (fills c at bytes reply)
    fill_none at bytes reply =
        behind (bytes_written c.task c.space at bytes) (λ reach. done (filled c.memory reply reach))
        (filled_none reply (outcome_in s (bytes_written c.task c.space at bytes)))

    module _ (context : Context) where
      mmap_none : (address length protection flags fd offset : ℕ)
          → NamesNone (mmap_row context address length protection flags fd offset c)
      mmap_none address length protection flags fd offset =
          behind (file_refusal flags fd c)
          (λ file. done (maps context c address length protection flags offset file))
          (unless_none (map_refusal c.space address length protection flags offset
          (outcome_in s (file_refusal flags fd c))) _ refl)

      module _ (buffer flags : ℕ) where
        abbrev in_table : List InHand → Table → Prog Answer
        in_table hand table =
            or_refuse EMFILE (λ fds. done (pipe_made context c buffer flags hand table fds)) (two_free table)

        in_table_none : (hand : List InHand) (table : Table) → NamesNone (in_table hand table)
        in_table_none hand table =
            found EMFILE (λ fds. done (pipe_made context c buffer flags hand table fds)) (λ fds. refl) (two_free table)

        pipe2_none : NamesNone (pipe2_of context c buffer flags)
        pipe2_none =
            either (not (are_pipe_flags flags)) _ _ refl
            (behind (access_row writable c.space buffer 8) _
            (found EFAULT (λ hand. with_callers_table c (in_table hand))
            (λ hand. found EBADF (in_table hand) (in_table_none hand) (s (OfTable c.table)))
            (outcome_in s (access_row writable c.space buffer 8))))

      row_none : (args : Args) (call : CallNo) → NamesNone (row_of_call context c args call)
      row_none args Dup = dup_none args.a0
      row_none args Dup3 = dup3_none args.a0 args.a1 args.a2
      row_none args Fcntl = fcntl_none args.a0 args.a1 args.a2
      row_none args Ioctl = ioctl_none args.a0
      row_none args Close = close_none args.a0
      row_none args Pipe2 = pipe2_none args.a0 (args.a1 % 2 ^ 32)
      row_none args Lseek = lseek_none args.a0
      row_none args Read = read_none args.a0 args.a1 args.a2
      row_none args Write = write_none args.a0 args.a1 args.a2
      row_none args Readv = readv_none args.a0 args.a1 args.a2
      row_none args Writev = writev_none args.a0 args.a1 args.a2
      row_none args Pread64 = pread64_none args.a0
      row_none args Pwrite64 = pwrite64_none args.a0
      row_none args Exit = behind (task_end c (Exited (args.a0 % 256))) ends_with refl
      row_none args ExitGroup = behind (group_end c (Exited (args.a0 % 256))) ends_with refl
      row_none args Futex = futex_none args.a0 (args.a1 % 2 ^ 32) (args.a2 % 2 ^ 32) args.a3
      row_none args Clone = clone_none context (cloning_of args)
      row_none args Wait4 = wait_none (args.a0 % 2 ^ 32) args.a1 (args.a2 % 2 ^ 32) args.a3
      row_none args ClockGettime =
          either (nat_lt 1 args.a0) _ _ refl (fill_none args.a1 (timespec (time_at context.place)) 0)
      row_none args Uname = fill_none args.a0 utsname 0
      row_none args Munmap = unless_none (fault_errno (unmap_fault args.a0 args.a1)) _ refl
      row_none args Mmap = mmap_none args.a0 args.a1 args.a2 args.a3 args.a4 args.a5
      row_none args Mprotect = unless_none (protect_refusal c.space args.a0 args.a1 args.a2) _ refl
      row_none args Getrandom =
          either (nat_lt 7 (args.a2 % 2 ^ 32)) _ _ refl
          (fill_none args.a0 (random_at context.seed context.place (min args.a1 256)) (min args.a1 256))
      row_none args _ = refl

      known_none : (args : Args) (call : Option CallNo) → NamesNone (row_if_known context c args call)
      known_none args None = refl
      known_none args (Some call) = row_none args call

-- what a call's row comes to names no child
pub names_none : (s : Parts) (context : Context) (c : Caller) (number : ℕ) (args : Args)
    → (outcome_in s (call_row context c number args)).fresh ≡ []
names_none s context c number args = known_none s c context args (call_numbered number)
