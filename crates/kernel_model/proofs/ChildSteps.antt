-- No row changes a node, so that a child without a number stays as it is through each step that gives it none.
use Rattle.std.proofs.Common.{◌≡◌, ℕ, ℤ, Bool, true, false, cond, List, [], ◌∷◌, ◌++◌, length, Option, Some, None, ap}
use Rattle.std.proofs.Common.{refl, sym, ◌∙◌, inl, inr, subst, option_map, pos, nat_cmp}
use Rattle.std.specs.Prelude.{nat_le, nat_lt, ◌+◌, ◌==◌, ◌%◌, ◌^◌, ◌&&◌, ◌||◌, min, not}
use Rattle.std.specs.Int.{from_le_bytes, to_le_bytes, w32}
use Rattle.std.specs.List.{list_all, list_any}
use Rattle.std.specs.Ordering.{int_eq}
use Rattle.std.specs.FinMap as map
use Rattle.sn_errno.specs.declared.errno.Errno.{Errno}
use Rattle.sn_errno.specs.declared.errno.Errno.TheVariants.{EIO, ENFILE, EFAULT, ENOSYS, EINVAL}
use Rattle.sn_errno.specs.declared.errno.Errno.TheVariants.{EAGAIN, ECHILD}
use Rattle.sn_errno.specs.declared.calls.CallNo.{CallNo}
use Rattle.sn_errno.specs.declared.calls.CallNo.TheVariants.{Write, Exit, ExitGroup, SetTidAddress, SetRobustList}
use Rattle.sn_errno.specs.declared.calls.CallNo.TheVariants.{Dup, Dup3, Fcntl, Ioctl, Close, Lseek, Pread64, Pwrite64}
use Rattle.sn_errno.specs.declared.calls.CallNo.TheVariants.{Pipe2, Read, Readv, Writev}
use Rattle.sn_errno.specs.declared.calls.CallNo.TheVariants.{Futex, ClockGettime, Clone, Wait4}
use Rattle.sn_errno.specs.declared.calls.CallNo.TheVariants.{SchedYield, Uname, Getpid, Getppid, Getuid, Geteuid}
use Rattle.sn_errno.specs.declared.calls.CallNo.TheVariants.{Getgid, Getegid, Gettid, Brk, Munmap, Mmap, Mprotect}
use Rattle.sn_errno.specs.declared.calls.CallNo.TheVariants.{Getrandom}
use Rattle.mm_areas.specs.Mappings.{unmap_fault, pages_in}
use Rattle.mm_space.specs.Changes.{broken_in, unmapped_in, righted_in}
use Rattle.mm_space.specs.Handed.{zero_area}
use Rattle.sn_errno.specs.Calls.{call_numbered}
use Rattle.sn_errno.specs.Errors.{reply_of}
use Rattle.host_node.specs.Tree.{Shape}
use Rattle.sn_base.specs.declared.made.Made.{Made}
use Rattle.stat_layout.specs.declared.stat.TheConstants.{OWNER}
use Rattle.task_table.specs.declared.task.EndedTask.{EndedTask}
use Rattle.task_table.specs.declared.task.ReapEnd.{ReapEnd}
use Rattle.task_table.specs.declared.task.ReapEnd.TheVariants.{Reaped, NotYet, NoChild}
use Rattle.task_table.specs.declared.task.Status.{Status}
use Rattle.task_table.specs.declared.task.Status.TheVariants.{Exited, Killed}
use Rattle.task_table.specs.Ends.{ended_tasks, exited, group_ended, is_itself, is_last, is_member}
use Rattle.task_table.specs.Reaps.{after_reap, reap_end}
use Rattle.task_table.specs.Status.{status_number}
use Rattle.task_table.specs.Table.{TaskTable}
use Rattle.quantum.specs.Instructions.{GoingTask, ran}
use Rattle.mm_space.specs.Spaces.{AddressSpace, Reach, unreserved}
use Rattle.futex_core.specs.declared.keys.FutexKey.{FutexKey}
use Rattle.futex_core.specs.Waiters.{FutexList, after_leave, after_sleep}
use Rattle.kernel_model.specs.declared.caller.Caller.{Caller}
use Rattle.kernel_model.specs.declared.entry.Args.{Args}
use Rattle.kernel_model.specs.declared.entry.Entry.{Entry}
use Rattle.kernel_model.specs.declared.entry.Entry.TheVariants.{Run, Call, Sleep, End}
use Rattle.kernel_model.specs.declared.kernel.Kernel.{Kernel}
use Rattle.kernel_model.specs.declared.kernel.Part.TheVariants.{OfTasks, OfArea, OfNode, OfSleepers}
use Rattle.kernel_model.specs.declared.kernel.Part.TheVariants.{OfFaults}
use Rattle.kernel_model.specs.declared.opening.Given.{Given}
use Rattle.kernel_model.specs.declared.traps.Next.{Next}
use Rattle.kernel_model.specs.declared.traps.Next.TheVariants.{Goes, Calls, Traps, Touches}
use Rattle.kernel_model.specs.machine.FutexWords.{key_at}
use Rattle.kernel_model.specs.machine.Random.{random_at}
use Rattle.kernel_model.specs.machine.Registers.{args_of, call_of as number_of}
use Rattle.kernel_model.specs.machine.Spaces.{going_in, going_with}
use Rattle.kernel_model.specs.calls.Answers.{RowReply, Replies, Sleeps, NotReady, Answer, address_reply}
use Rattle.kernel_model.specs.calls.Buffers.{filled, fills}
use Rattle.kernel_model.specs.calls.Callers.{Context, context_of, caller_of}
use Rattle.kernel_model.specs.calls.ClearWords.{Cleared, nothing_cleared, words_cleared}
use Rattle.kernel_model.specs.calls.Clone.{Cloning, caller_word, clone_of, cloning_of, is_full, is_process, is_thread}
use Rattle.kernel_model.specs.calls.Clone.{made_for_child, process_by, process_made, process_row, process_with}
use Rattle.kernel_model.specs.calls.Clone.{sets_child_word, thread_by, thread_made, thread_row, word_set}
use Rattle.kernel_model.specs.calls.Ending.{closed_if, end_changes, ends_as, ends_with, exit_row, exit_group_row}
use Rattle.kernel_model.specs.calls.Ending.{group_end, set_tid_address_row, task_end}
use Rattle.kernel_model.specs.calls.Futex.{by_word, futex_of, is_wait, is_wake, sleeps_on, wakes_on}
use Rattle.kernel_model.specs.calls.Identity.{parent_of, utsname}
use Rattle.kernel_model.specs.calls.Memory.{mmap_row}
use Rattle.kernel_model.specs.calls.Memory.{remaps, unless_refused, fault_errno, file_refusal, map_refusal, maps}
use Rattle.kernel_model.specs.calls.Memory.{protect_refusal}
use Rattle.kernel_model.specs.calls.Memory.{is_shared, area_made_at, area_made_by, maps_at, address_in, asked_place}
use Rattle.kernel_model.specs.calls.Memory.{rights_in}
use Rattle.kernel_model.specs.calls.Table.{call_row, row_of_call, row_if_known}
use Rattle.kernel_model.specs.calls.Time.{timespec, time_at}
use Rattle.kernel_model.specs.calls.Wait.{asked_child, by_child, is_child_asked, is_option, reaps, reaps_at, wait4_of}
use Rattle.kernel_model.specs.entries.Areas.{Stands, next_row, bytes_read, bytes_written, reach_changes}
use Rattle.kernel_model.specs.entries.Given.{has_any, is_in_order, above_last, Nodes_so_far, number_all, node_changes}
use Rattle.kernel_model.specs.entries.Given.{met, faulted, risen, is_unused, may_meet}
use Rattle.kernel_model.specs.descriptors.Counts.{table_closed, table_copied}
use Rattle.kernel_model.specs.entries.Parts.{Parts, parts, Prog, done, look, outcome_in, ◌>>=◌, Change}
use Rattle.kernel_model.specs.entries.Parts.{changed}
use Rattle.kernel_model.specs.entries.Steps.{run_changes, run_row, run_alone, or_step, step_row, step_with, end_at}
use Rattle.kernel_model.specs.entries.Steps.{call_at, going_on, replied_by, replied_to}
use Rattle.kernel_model.specs.entries.Steps.{refused_with, failing, exhausted, numbering, by_answer, by_given}
use Rattle.kernel_model.specs.entries.Steps.{are_named_fresh, are_just, row_of, if_live, task_of, entry_row, stepped}
use Rattle.kernel_model.specs.entries.Steps.{may_enter, step, stands_at, sleep_at, slept_by, woken_at, woken_entry}
use Rattle.kernel_model.specs.entries.Waiting.{Wait, Awake, Asleep, Woken, wait_of}
use Rattle.kernel_model.specs.laws.Children.{HasUnnumbered, is_given_to, numbers_child}
use Rattle.kernel_model.proofs.FileChanges.{closed_open, copied_open, open_leaves}
use Rattle.kernel_model.proofs.LeftNodes.{Leaves, LeavesNodes, areas_leave, behind_leaves, either_leaves}
use Rattle.kernel_model.proofs.LeftNodes.{leaves-append, reach_leaves, refused_leaves, told_leaves}
use Rattle.kernel_model.proofs.MovedRows.{pipe2_leaves, read_leaves, readv_leaves, write_leaves, writev_leaves}
use Rattle.kernel_model.proofs.OpenRows.{close_open, dup3_open, dup_open, fcntl_open, ioctl_open, lseek_open}
use Rattle.kernel_model.proofs.OpenRows.{pread64_open, pwrite64_open}
use Rattle.kernel_model.proofs.Trees.{outcome-bind}
use Rattle.kernel_model.proofs.LocalityLaws.{entered}
use Rattle.kernel_model.proofs.PartChanges.{changed_other}
use Rattle.kernel_model.proofs.ChildLaws.{Stays, StaysIf, all_stay, changed-append, nodes_left, unused_others}

-- ---- changes of which none is of a node

going_on_leaves : (c : Caller) (value : ℤ) → LeavesNodes (going_on c value)
going_on_leaves c value ino (inl e) = absurd (cc e)
going_on_leaves c value ino (inr is) = is

-- what tasks that end leave
end_leaves : (c : Caller) (ended : List EndedTask) (after : TaskTable) (x : Cleared) (waiting : FutexList)
    → LeavesNodes (end_changes c ended after x waiting)
end_leaves c ended after x waiting ino (inl e) = absurd (cc e)
end_leaves c ended after x waiting ino (inr (inl e)) = absurd (cc e)
end_leaves c ended after x waiting ino (inr (inr is)) = reach_leaves c.memory x.reach ino is

-- pieces that change what is open
copied_leaves : (s : Parts) (name copy : Made) → LeavesNodes (outcome_in s (table_copied name copy))
copied_leaves s name copy = open_leaves (outcome_in s (table_copied name copy)) (copied_open name copy s)

closed_leaves : (s : Parts) (name : Made) → LeavesNodes (outcome_in s (table_closed name))
closed_leaves s name = open_leaves (outcome_in s (table_closed name)) (closed_open name s)

-- ---- no call's row changes a node

module _ (s : Parts) where
  -- ends
  ends_leave : (c : Caller) (ended : List EndedTask) (after : TaskTable)
      → LeavesNodes (outcome_in s (ends_as c ended after))
  ends_leave c ended after =
      subst LeavesNodes
      (sym (outcome-bind s (words_cleared c ended (nothing_cleared c.space))
      (λ x. look OfSleepers (λ waiting. done (end_changes c ended after x waiting)))))
      (end_leaves c ended after (outcome_in s (words_cleared c ended (nothing_cleared c.space))) (s OfSleepers))

  and_closed_leaves : (last : Bool) (c : Caller) (changes : List Change) → LeavesNodes changes
      → LeavesNodes (outcome_in s (closed_if last c changes))
  and_closed_leaves false c changes here = here
  and_closed_leaves true c changes here =
      subst LeavesNodes (sym (outcome-bind s (table_closed c.table) (λ closed. done (changes ++ closed))))
      (leaves-append changes _ here (closed_leaves s c.table))

  behind_ends : (c : Caller) (ended : List EndedTask) (after : TaskTable) (last : Bool)
      → LeavesNodes (outcome_in s (ends_as c ended after >>= closed_if last c))
  behind_ends c ended after last =
      subst LeavesNodes (sym (outcome-bind s (ends_as c ended after) (closed_if last c)))
      (and_closed_leaves last c (outcome_in s (ends_as c ended after)) (ends_leave c ended after))

  group_leaves : (c : Caller) (status : Status) → LeavesNodes (outcome_in s (group_end c status))
  group_leaves c status =
      behind_ends c (ended_tasks (is_member c.group) (s OfTasks).tasks) (group_ended (s OfTasks) c.group status) true

  task_leaves : (c : Caller) (status : Status) → LeavesNodes (outcome_in s (task_end c status))
  task_leaves c status =
      behind_ends c (ended_tasks (is_itself c.task) (s OfTasks).tasks) (exited (s OfTasks) c.task status)
      (is_last (s OfTasks).tasks c.task)

  exit_leaves : (status : ℕ) (c : Caller) → Leaves s (exit_row status c)
  exit_leaves status c =
      behind_leaves s (task_end c (Exited (status % 256))) ends_with (task_leaves c (Exited (status % 256)))

  exit_group_leaves : (status : ℕ) (c : Caller) → Leaves s (exit_group_row status c)
  exit_group_leaves status c =
      behind_leaves s (group_end c (Exited (status % 256))) ends_with (group_leaves c (Exited (status % 256)))

  -- sleepers
  sleep_leaves : (task : ℕ) (key : FutexKey) (word value : ℕ) → Leaves s (sleeps_on task key word value)
  sleep_leaves task key word value =
      either_leaves s (word == value) _ _ (λ ino is. last ino is) (refused_leaves s EAGAIN)
    where
      last : LeavesNodes ((OfSleepers, after_sleep (s OfSleepers) task key) ∷ [])
      last ino (inl e) = absurd (cc e)
      last ino (inr is) = is

  wake_leaves : (key : FutexKey) (most : ℕ) → Leaves s (wakes_on key most)
  wake_leaves key most ino (inl e) = absurd (cc e)
  wake_leaves key most ino (inr is) = is

  word_leaves : (c : Caller) (address operation value : ℕ) (bytes : Option (List ℕ))
      → Leaves s (by_word c address operation value bytes)
  word_leaves c address operation value None = refused_leaves s EFAULT
  word_leaves c address operation value (Some bytes) =
      either_leaves s (is_wait operation) _ _
      (sleep_leaves c.task (key_at c.memory c.space address) (from_le_bytes w32 bytes) value)
      (wake_leaves (key_at c.memory c.space address) value)

  futex_leaves : (address operation value timeout : ℕ) (c : Caller)
      → Leaves s (futex_of address operation value timeout c)
  futex_leaves address operation value timeout c =
      either_leaves s (not (is_wait operation || is_wake operation)) _ _ (refused_leaves s ENOSYS)
      (either_leaves s (not (address % 4 == 0)) _ _ (refused_leaves s EINVAL)
      (either_leaves s (is_wait operation && not (timeout == 0)) _ _ (refused_leaves s ENOSYS)
      (behind_leaves s (bytes_read c.space address 4) (by_word c address operation value)
      (word_leaves c address operation value (outcome_in s (bytes_read c.space address 4))))))

  -- children that are made,
  module _ (c : Caller) (x : Cloning) (list : TaskTable) where
    thread_made_leaves : (reach : Option Reach) → LeavesNodes (thread_made c x list reach).changes
    thread_made_leaves None ino is = is
    thread_made_leaves (Some reach) ino (inl e) = absurd (cc e)
    thread_made_leaves (Some reach) ino (inr (inl e)) = absurd (cc e)
    thread_made_leaves (Some reach) ino (inr (inr is)) = reach_leaves c.memory reach ino is

    thread_by_leaves : (reach : Option Reach) → Leaves s (thread_by c x list reach)
    thread_by_leaves None = refused_leaves s EFAULT
    thread_by_leaves (Some reach) =
        behind_leaves s
        (word_set c.task (sets_child_word x.flags) reach.space reach.hand x.child_word (list.last + 1)) _
        (thread_made_leaves _)

    thread_leaves : Leaves s (thread_row c x list)
    thread_leaves =
        either_leaves s (is_full list) _ _ (refused_leaves s EAGAIN)
        (behind_leaves s (caller_word c x list) (thread_by c x list) (thread_by_leaves _))

    module _ (context : Context) where
      process_made_leaves : (space : AddressSpace) (reach : Reach) (copies : List Change) → LeavesNodes copies
          → LeavesNodes (process_made context c x list space reach copies).changes
      process_made_leaves space reach copies more ino (inl e) = absurd (cc e)
      process_made_leaves space reach copies more ino (inr (inl e)) = absurd (cc e)
      process_made_leaves space reach copies more ino (inr (inr (inl e))) = absurd (cc e)
      process_made_leaves space reach copies more ino (inr (inr (inr is))) =
          leaves-append (reach_changes (made_for_child context.place) reach) copies
          (reach_leaves (made_for_child context.place) reach) more ino is

      process_with_leaves : (space : AddressSpace) (reach : Option Reach)
          → Leaves s (process_with context c x list space reach)
      process_with_leaves space None = refused_leaves s EFAULT
      process_with_leaves space (Some reach) =
          behind_leaves s (table_copied c.table (made_for_child context.place)) _
          (process_made_leaves space reach _ (copied_leaves s c.table (made_for_child context.place)))

      process_by_leaves : (reach : Option Reach) → Leaves s (process_by context c x list reach)
      process_by_leaves None = refused_leaves s EFAULT
      process_by_leaves (Some reach) =
          behind_leaves s
          (word_set c.task (sets_child_word x.flags) (unreserved c.space.mapping) reach.hand x.child_word
          (list.last + 1)) _ (process_with_leaves reach.space _)

      process_leaves : Leaves s (process_row context c x list)
      process_leaves =
          either_leaves s (is_full list) _ _ (refused_leaves s EAGAIN)
          (behind_leaves s (caller_word c x list) (process_by context c x list) (process_by_leaves _))

  clone_leaves : (context : Context) (c : Caller) (x : Cloning) → Leaves s (clone_of context c x)
  clone_leaves context c x =
      either_leaves s (is_process x.flags) _ _ (λ ino is. process_leaves c x (s OfTasks) context ino is)
      (either_leaves s (is_thread x.flags) _ _ (λ ino is. thread_leaves c x (s OfTasks) ino is)
      (refused_leaves s EINVAL))

  -- and those that are waited for
  reaps_leave : (c : Caller) (list : TaskTable) (child : ℕ) (status : Status) (reach : Option Reach)
      → LeavesNodes (reaps c list child status reach).changes
  reaps_leave c list child status None ino is = is
  reaps_leave c list child status (Some reach) ino (inl e) = absurd (cc e)
  reaps_leave c list child status (Some reach) ino (inr is) = reach_leaves c.memory reach ino is

  reaps_at_leave : (c : Caller) (list : TaskTable) (address child : ℕ) (status : Status)
      → Leaves s (reaps_at c list address child status)
  reaps_at_leave c list address child status =
      either_leaves s (address == 0) _ _ (λ ino is. last ino is)
      (behind_leaves s (bytes_written c.task c.space address (to_le_bytes w32 (status_number status)))
      (λ reach. done (reaps c list child status reach)) (reaps_leave c list child status _))
    where
      last : LeavesNodes ((OfTasks, after_reap list (Reaped child status)) ∷ [])
      last ino (inl e) = absurd (cc e)
      last ino (inr is) = is

  child_leaves : (c : Caller) (list : TaskTable) (address options : ℕ) (end : ReapEnd)
      → Leaves s (by_child c list address options end)
  child_leaves c list address options NoChild = refused_leaves s ECHILD
  child_leaves c list address options NotYet =
      either_leaves s (options == 1) _ _ (told_leaves s (pos 0)) (λ ino is. is)
  child_leaves c list address options (Reaped child status) = reaps_at_leave c list address child status

  wait_leaves : (child address options usage : ℕ) (c : Caller) → Leaves s (wait4_of child address options usage c)
  wait_leaves child address options usage c =
      either_leaves s (is_child_asked child && is_option options && (usage == 0)) _ _
      (λ ino is. child_leaves c (s OfTasks) address options
      (reap_end (s OfTasks).groups c.group (asked_child child)) ino is)
      (refused_leaves s EINVAL)

  clear_leaves : (address : ℕ) (c : Caller) → Leaves s (set_tid_address_row address c)
  clear_leaves address c ino (inl e) = absurd (cc e)
  clear_leaves address c ino (inr is) = is

  -- what is mapped changes an address space, and makes an area
  unless_leaves : (refusal : Option Errno) (answer : Answer) → LeavesNodes answer.changes
      → LeavesNodes (unless_refused refusal answer).changes
  unless_leaves None answer h = h
  unless_leaves (Some errno) answer h = refused_leaves s errno

  remaps_leave : (c : Caller) (space : AddressSpace) (value : ℤ) (changes : List Change) → LeavesNodes changes
      → LeavesNodes (remaps c space value changes).changes
  remaps_leave c space value changes h ino (inl e) = absurd (cc e)
  remaps_leave c space value changes h ino (inr is) = h ino is

  none_leaves : LeavesNodes []
  none_leaves ino is = is

  made_leaves : (place length flags : ℕ) → LeavesNodes (area_made_by place length flags)
  made_leaves place length flags = by (is_shared flags)
    where
      by : (b : Bool) → LeavesNodes (cond b
          ((OfArea (area_made_at place), Some (zero_area (pages_in length))) ∷ []) [])
      by true ino (inl e) = absurd (cc e)
      by true ino (inr is) = is
      by false ino is = is

  maps_leave : (context : Context) (c : Caller) (address length protection flags : ℕ)
      → LeavesNodes (maps_at context c address length protection flags).changes
  maps_leave context c address length protection flags ino (inl e) = absurd (cc e)
  maps_leave context c address length protection flags ino (inr is) = made_leaves context.place length flags ino is

  mmap_leaves : (context : Context) (address length protection flags fd offset : ℕ) (c : Caller)
      → Leaves s (mmap_row context address length protection flags fd offset c)
  mmap_leaves context address length protection flags fd offset c =
      behind_leaves s (file_refusal flags fd c)
      (λ file. done (maps context c address length protection flags offset file))
      (unless_leaves (map_refusal c.space address length protection flags offset
      (outcome_in s (file_refusal flags fd c)))
      (maps_at context c (address_in c.space (asked_place address flags) length) length protection flags)
      (maps_leave context c (address_in c.space (asked_place address flags) length) length protection flags))

  -- and bytes that are put an address space and areas
  filled_leave : (memory : Made) (reply : ℕ) (reach : Option Reach) → LeavesNodes (filled memory reply reach).changes
  filled_leave memory reply None ino is = is
  filled_leave memory reply (Some reach) ino (inl e) = absurd (cc e)
  filled_leave memory reply (Some reach) ino (inr is) = areas_leave reach.hand ino is

  fill_leaves : (c : Caller) (at : ℕ) (bytes : List ℕ) (reply : ℕ) → Leaves s (fills c at bytes reply)
  fill_leaves c at bytes reply =
      behind_leaves s (bytes_written c.task c.space at bytes) (λ reach. done (filled c.memory reply reach))
      (filled_leave c.memory reply (outcome_in s (bytes_written c.task c.space at bytes)))

  row_leaves : (context : Context) (c : Caller) (args : Args) (call : CallNo)
      → Leaves s (row_of_call context c args call)
  row_leaves context c args Dup = open_leaves _ (dup_open s c args.a0)
  row_leaves context c args Dup3 = open_leaves _ (dup3_open s c args.a0 args.a1 args.a2)
  row_leaves context c args Fcntl = open_leaves _ (fcntl_open s c args.a0 args.a1 args.a2)
  row_leaves context c args Ioctl = open_leaves _ (ioctl_open s c args.a0)
  row_leaves context c args Close = open_leaves _ (close_open s c args.a0)
  row_leaves context c args Lseek = open_leaves _ (lseek_open s c args.a0)
  row_leaves context c args Pread64 = open_leaves _ (pread64_open s c args.a0)
  row_leaves context c args Pwrite64 = open_leaves _ (pwrite64_open s c args.a0)
  row_leaves context c args Pipe2 = pipe2_leaves s context c args.a0 (args.a1 % 2 ^ 32)
  row_leaves context c args Read = read_leaves s args.a0 args.a1 args.a2 c
  row_leaves context c args Write = write_leaves s args.a0 args.a1 args.a2 c
  row_leaves context c args Readv = readv_leaves s args.a0 args.a1 args.a2 c
  row_leaves context c args Writev = writev_leaves s args.a0 args.a1 args.a2 c
  row_leaves context c args Exit = exit_leaves args.a0 c
  row_leaves context c args ExitGroup = exit_group_leaves args.a0 c
  row_leaves context c args Futex = futex_leaves args.a0 (args.a1 % 2 ^ 32) (args.a2 % 2 ^ 32) args.a3 c
  row_leaves context c args Clone = clone_leaves context c (cloning_of args)
  row_leaves context c args Wait4 = wait_leaves (args.a0 % 2 ^ 32) args.a1 (args.a2 % 2 ^ 32) args.a3 c
  row_leaves context c args SetTidAddress = clear_leaves args.a0 c
  row_leaves context c args SetRobustList = told_leaves s (pos 0)
  row_leaves context c args ClockGettime =
      either_leaves s (nat_lt 1 args.a0) _ _ (refused_leaves s EINVAL)
      (fill_leaves c args.a1 (timespec (time_at context.place)) 0)
  row_leaves context c args SchedYield = told_leaves s (pos 0)
  row_leaves context c args Uname = fill_leaves c args.a0 utsname 0
  row_leaves context c args Getpid = told_leaves s (pos c.group)
  row_leaves context c args Getppid = told_leaves s (pos (parent_of (s OfTasks).groups c.group))
  row_leaves context c args Getuid = told_leaves s (pos OWNER)
  row_leaves context c args Geteuid = told_leaves s (pos OWNER)
  row_leaves context c args Getgid = told_leaves s (pos OWNER)
  row_leaves context c args Getegid = told_leaves s (pos OWNER)
  row_leaves context c args Gettid = told_leaves s (pos c.task)
  row_leaves context c args Brk =
      remaps_leave c (broken_in c.space args.a0) (address_reply (broken_in c.space args.a0).mapping.program_break) []
      none_leaves
  row_leaves context c args Munmap =
      unless_leaves (fault_errno (unmap_fault args.a0 args.a1)) _
      (remaps_leave c (unmapped_in c.space args.a0 args.a1) (pos 0) [] none_leaves)
  row_leaves context c args Mmap = mmap_leaves context args.a0 args.a1 args.a2 args.a3 args.a4 args.a5 c
  row_leaves context c args Mprotect =
      unless_leaves (protect_refusal c.space args.a0 args.a1 args.a2) _
      (remaps_leave c (righted_in c.space args.a0 args.a1 (rights_in args.a2)) (pos 0) [] none_leaves)
  row_leaves context c args Getrandom =
      either_leaves s (nat_lt 7 (args.a2 % 2 ^ 32)) _ _ (refused_leaves s EINVAL)
      (fill_leaves c args.a0 (random_at context.seed context.place (min args.a1 256)) (min args.a1 256))
  row_leaves context c args _ = refused_leaves s ENOSYS

  known_leaves : (context : Context) (c : Caller) (args : Args) (call : Option CallNo)
      → Leaves s (row_if_known context c args call)
  known_leaves context c args None = refused_leaves s ENOSYS
  known_leaves context c args (Some call) = row_leaves context c args call

-- ---- what a step's changes leave of the child

front : (a b : Bool) → (a && b) ≡ true → a ≡ true
front true b e = refl
front false b e = absurd (cc e)

module _ (k : Kernel) (dir : ℕ) (name : List ℕ) (shape : Shape) where
  abbrev Keeps : List Change → Type 0
  Keeps changes = HasUnnumbered name shape (map.get (changed changes k).nodes dir)

  abbrev KeepsIf : Option (List Change) → Type 0
  KeepsIf None = Unit {0}
  KeepsIf (Some changes) = Keeps changes

  -- what a row comes to
  abbrev Fits : Prog (Option (List Change)) → Type 0
  Fits row = KeepsIf (outcome_in (parts k) row)

  more_keep : (changes more : List Change) → LeavesNodes more → Keeps changes → Keeps (changes ++ more)
  more_keep changes more leaves (node, found, has) = (
    node,
    ap (λ (m : Kernel). map.get m.nodes dir) (changed-append changes more k)
        ∙ changed_other more (changed changes k) (OfNode dir) (leaves dir)
        ∙ found,
    has,
  )

  nodes_keep : (nodes : Nodes_so_far) → Stays (parts k) dir name shape nodes → Keeps (node_changes nodes)
  nodes_keep nodes (node, found, has) = (node, nodes_left nodes k dir ∙ found, has)

  either_fits : (b : Bool) (x y : Prog (Option (List Change))) → Fits x → Fits y → Fits (cond b x y)
  either_fits true x y here there = here
  either_fits false x y here there = there

  either_keeps : (b : Bool) (x y : Option (List Change)) → KeepsIf x → KeepsIf y → KeepsIf (cond b x y)
  either_keeps true x y here there = here
  either_keeps false x y here there = there

  -- one row behind another
  behind : {A : Type 0} (first : Prog A) (next : A → Prog (Option (List Change)))
      → Fits (next (outcome_in (parts k) first)) → Fits (first >>= next)
  behind first next h = subst KeepsIf (sym (outcome-bind (parts k) first next)) h

  module _ (there : HasUnnumbered name shape (map.get k.nodes dir)) where
    untouched : (changes : List Change) → LeavesNodes changes → Keeps changes
    untouched changes leaves = more_keep [] changes leaves there

    -- instructions, and the end of a group
    run_keeps : (c : Caller) (after : Option GoingTask) → KeepsIf (option_map (run_changes c) after)
    run_keeps c None = tt
    run_keeps c (Some g) = untouched (run_changes c g) none
      where
        none : LeavesNodes (run_changes c g)
        none ino (inl e) = absurd (cc e)
        none ino (inr (inl e)) = absurd (cc e)
        none ino (inr (inr is)) = areas_leave g.acting.reach.hand ino is

    step_fits : (c : Caller) → Fits (step_row c)
    step_fits c =
        behind (next_row c) (λ (x : Stands). done (step_with c x.hand))
        (run_keeps c (ran 1 (going_with c.task c.space (outcome_in (parts k) (next_row c)).hand c.registers)))

    or_step_fits : (n : ℕ) (c : Caller) (alone : Option (List Change)) → KeepsIf alone → Fits (or_step n c alone)
    or_step_fits n c (Some changes) h = h
    or_step_fits n c None h = either_fits (n == 1) _ _ (step_fits c) tt

    run_fits : (n : ℕ) (c : Caller) → Fits (run_row n c)
    run_fits n c =
        or_step_fits n c (run_alone n c)
        (either_keeps (nat_le 1 n && nat_le n 10000) _ _ (run_keeps c (ran n (going_in c.task c.space c.registers))) tt)

    end_fits : (signal : ℕ) (c : Caller) (next : Next) → Fits (end_at signal c next)
    end_fits signal c Goes = tt
    end_fits signal c Calls = tt
    end_fits signal c (Touches area) = tt
    end_fits signal c (Traps t) =
        either_fits (t == signal) _ _
        (behind (group_end c (Killed signal)) (λ changes. done (Some changes))
        (untouched _ (group_leaves (parts k) c (Killed signal)))) tt

    -- a task that goes to sleep, and one that was woken
    slept_keeps : (answer : Answer) (reply : RowReply) → LeavesNodes answer.changes → KeepsIf (slept_by answer reply)
    slept_keeps answer (Replies value) leaves = tt
    slept_keeps answer NotReady leaves = tt
    slept_keeps answer Sleeps leaves = untouched answer.changes leaves

    sleep_fits : (context : Context) (c : Caller) (next : Next) → Fits (sleep_at context c next)
    sleep_fits context c Goes = tt
    sleep_fits context c (Traps t) = tt
    sleep_fits context c (Touches area) = tt
    sleep_fits context c Calls =
        behind (call_row context c (number_of c.registers) (args_of c.registers))
        (λ (answer : Answer). done (slept_by answer answer.reply))
        (slept_keeps (outcome_in (parts k) (call_row context c (number_of c.registers) (args_of c.registers))) _
        (known_leaves (parts k) context c (args_of c.registers) (call_numbered (number_of c.registers))))

    woken_fits : (c : Caller) (call : ℕ) (args : Args) (reply : ℤ) (given : Given)
        → Fits (woken_entry c call args reply given)
    woken_fits c call args reply given =
        either_fits (woken_at c call args reply given) _ _
        (untouched ((OfSleepers, after_leave k.sleepers c.task) ∷ going_on c (pos 0)) none) tt
      where
        none : LeavesNodes ((OfSleepers, after_leave k.sleepers c.task) ∷ going_on c (pos 0))
        none ino (inl e) = absurd (cc e)
        none ino (inr is) = going_on_leaves c (pos 0) ino is

    -- ---- calls

    module _ (c : Caller) (reply : ℤ) where
      refused_keeps : (errno : Errno) (changes : Option (List Change)) → KeepsIf changes
          → KeepsIf (refused_with c reply errno changes)
      refused_keeps errno None h = tt
      refused_keeps errno (Some changes) h =
          either_keeps (int_eq reply (reply_of errno)) _ _
          (more_keep changes (going_on c (reply_of errno)) (going_on_leaves c (reply_of errno)) h) tt

      replied_keeps : (nodes : Option Nodes_so_far) (answer : Answer) → StaysIf (parts k) dir name shape nodes
          → LeavesNodes answer.changes → KeepsIf (replied_to c reply nodes answer)
      replied_keeps None answer h leaves = tt
      replied_keeps (Some nodes) answer h leaves = by answer.reply
        where
          all : Keeps (node_changes nodes ++ answer.changes)
          all = more_keep (node_changes nodes) answer.changes leaves (nodes_keep nodes h)

          by : (r : RowReply) → KeepsIf (replied_by c reply (node_changes nodes ++ answer.changes) r)
          by NotReady = tt
          by Sleeps = tt
          by (Replies value) =
              either_keeps (int_eq reply value) _ _
              (more_keep (node_changes nodes ++ answer.changes) (going_on c value) (going_on_leaves c value) all) tt

      module _ (given : Given) (apart : list_any (is_given_to dir name) given.fresh ≡ false)
          (may : may_meet k.nodes given ≡ true) where
        unused : list_all (is_unused k.nodes) given.fresh ≡ true
        unused = front _ _ may

        -- the nodes of the fresh numbers, none of which is the child's
        numbered_stay : StaysIf (parts k) dir name shape (outcome_in (parts k) (number_all given.fresh []))
        numbered_stay =
            all_stay (parts k) dir name shape given.fresh (unused_others k.nodes dir there.0 given.fresh there.1 unused)
            apart [] there

        met_keeps : (nodes : Option Nodes_so_far) (failed : map.FinMap nat_cmp ℕ)
            → StaysIf (parts k) dir name shape nodes → KeepsIf (met given nodes failed)
        met_keeps None failed h = tt
        met_keeps (Some nodes) failed h = more_keep (node_changes nodes) _ none (nodes_keep nodes h)
          where
            none : LeavesNodes ((OfFaults, risen given.rises failed) ∷ [])
            none ino (inl e) = absurd (cc e)
            none ino (inr is) = is

        faulted_fits : Fits (faulted given)
        faulted_fits =
            behind (number_all given.fresh []) _
            (met_keeps (outcome_in (parts k) (number_all given.fresh [])) k.failed numbered_stay)

        failing_fits : Fits (failing c reply given)
        failing_fits = behind (faulted given) _ (refused_keeps EIO _ faulted_fits)

        exhausted_keeps : (nodes : Option Nodes_so_far) → StaysIf (parts k) dir name shape nodes
            → KeepsIf (option_map node_changes nodes)
        exhausted_keeps None h = tt
        exhausted_keeps (Some nodes) h = nodes_keep nodes h

        exhausted_fits : Fits (exhausted c reply given)
        exhausted_fits =
            behind (number_all given.fresh []) _ (refused_keeps ENFILE _ (exhausted_keeps _ numbered_stay))

        numbering_fits : (answer : Answer) → LeavesNodes answer.changes → Fits (numbering c reply given answer)
        numbering_fits answer leaves =
            behind (number_all given.fresh []) _ (replied_keeps _ answer numbered_stay leaves)

        answer_fits : (answer : Answer) → LeavesNodes answer.changes → Fits (by_answer c reply given answer)
        answer_fits answer leaves =
            either_fits (list_any above_last given.fresh) _ _
            (either_fits (are_named_fresh given.fresh answer.fresh) _ _ exhausted_fits tt)
            (either_fits (are_just given.fresh answer.fresh) _ _ (numbering_fits answer leaves) tt)

        call_fits : (context : Context) (call : ℕ) (args : Args) → Fits (by_given context c call args reply given)
        call_fits context call args =
            either_fits (is_in_order given) _ _
            (either_fits (has_any given.rises) _ _ failing_fits
            (behind (call_row context c call args) (by_answer c reply given)
            (answer_fits _ (known_leaves (parts k) context c args (call_numbered call))))) tt

    -- ---- each entry

    row_fits : (context : Context) (e : Entry) (c : Caller) (wait : Wait) → numbers_child e dir name ≡ false
        → may_enter k.nodes e ≡ true → Fits (row_of context e c wait)
    row_fits context e c Asleep apart may = tt
    row_fits context (Run task n) c Woken apart may = tt
    row_fits context (Sleep task) c Woken apart may = tt
    row_fits context (End task signal) c Woken apart may = tt
    row_fits context (Call task call args given reply) c Woken apart may = woken_fits c call args reply given
    row_fits context (Run task n) c Awake apart may = run_fits n c
    row_fits context (Call task call args given reply) c Awake apart may =
        behind (next_row c) (λ (x : Stands). call_at context c call args reply given x.next)
        (either_fits (stands_at call args c.registers (outcome_in (parts k) (next_row c)).next) _ _
        (call_fits c reply given apart may context call args) tt)
    row_fits context (Sleep task) c Awake apart may =
        behind (next_row c) (λ (x : Stands). sleep_at context c x.next)
        (sleep_fits context c (outcome_in (parts k) (next_row c)).next)
    row_fits context (End task signal) c Awake apart may =
        behind (next_row c) (λ (x : Stands). end_at signal c x.next)
        (end_fits signal c (outcome_in (parts k) (next_row c)).next)

    live_fits : (context : Context) (e : Entry) (c : Option Caller) → numbers_child e dir name ≡ false
        → may_enter k.nodes e ≡ true → Fits (if_live context e c)
    live_fits context e None apart may = tt
    live_fits context e (Some c) apart may = row_fits context e c (wait_of k.sleepers c.task) apart may

    entry_fits : (context : Context) (e : Entry) → numbers_child e dir name ≡ false → may_enter k.nodes e ≡ true
        → Fits (entry_row context e)
    entry_fits context e apart may =
        behind (caller_of (task_of e)) (if_live context e) (live_fits context e _ apart may)

kept_by : (k next : Kernel) (dir : ℕ) (name : List ℕ) (shape : Shape) (changes : Option (List Change))
    → KeepsIf k dir name shape changes → option_map (stepped k) changes ≡ Some next
    → HasUnnumbered name shape (map.get next.nodes dir)
kept_by k next dir name shape None h e = absurd (cc e)
kept_by k next dir name shape (Some changes) h e =
    let is : next ≡ stepped k changes = cc e in
    subst (λ (n : Kernel). HasUnnumbered name shape (map.get n.nodes dir)) (sym is) h

pub child_stays : (k next : Kernel) (e : Entry) (dir : ℕ) (name : List ℕ) (shape : Shape) → step k e ≡ Some next
    → numbers_child e dir name ≡ false → HasUnnumbered name shape (map.get k.nodes dir)
    → HasUnnumbered name shape (map.get next.nodes dir)
child_stays k next e dir name shape stepping apart there =
    let is = entered k next e stepping in
    kept_by k next dir name shape (outcome_in (parts k) (entry_row (context_of k) e))
    (entry_fits k dir name shape there (context_of k) e apart is.0) is.1
