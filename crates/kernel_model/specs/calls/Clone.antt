-- clone: a new process, or a new thread in the caller's thread group.
use Rattle.std.specs.Prelude.{ℕ, ◌+◌, ◌*◌, ◌/◌, ◌%◌, ◌^◌, ◌==◌, ◌||◌, nat_le, List, [], ◌∷◌, ◌++◌, Bool}
use Rattle.std.specs.Prelude.{Option, Some, None, pos, if◌then◌else◌}
use Rattle.std.specs.Int.{to_le_bytes, w32}
use Rattle.sn_errno.specs.declared.errno.Errno.TheVariants.{EAGAIN, EFAULT, EINVAL}
use Rattle.rv_table.specs.declared.registers.Regs.{Regs}
use Rattle.rv_table.specs.Registers.{with_reg}
use Rattle.mm_space.specs.Handed.{InHand}
use Rattle.mm_space.specs.Spaces.{AddressSpace, Reach, unreserved}
use Rattle.sn_base.specs.declared.made.Made.{Made}
use Rattle.task_table.specs.declared.table.TheConstants.{LAST_TASK, MOST_LIVE}
use Rattle.task_table.specs.Clones.{forked, threaded}
use Rattle.task_table.specs.Table.{TaskTable, live_count}
use Rattle.kernel_model.specs.declared.caller.Caller.{Caller}
use Rattle.kernel_model.specs.declared.entry.Args.{Args}
use Rattle.kernel_model.specs.declared.kernel.Part.TheVariants.{OfTasks, OfTask, OfSpace}
use Rattle.kernel_model.specs.machine.Registers.{replied}
use Rattle.kernel_model.specs.machine.Spaces.{reach_with}
use Rattle.kernel_model.specs.calls.Answers.{Answer, replies, refuses}
use Rattle.kernel_model.specs.calls.Callers.{Context}
use Rattle.kernel_model.specs.descriptors.Counts.{table_copied}
use Rattle.kernel_model.specs.entries.Areas.{bytes_written_over, reach_changes}
use Rattle.kernel_model.specs.entries.Parts.{Change, Prog, done, look, ◌>>=◌}

-- ---- flags

-- a bit of the flags, and whether it is set
-- clone(2), The flags mask
abbrev pub bit : (place flags : ℕ) → ℕ
bit place flags = flags / 2 ^ place % 2

abbrev pub is_set : (place flags : ℕ) → Bool
is_set place flags = bit place flags == 1

-- CLONE_SETTLS, CLONE_PARENT_SETTID, CLONE_CHILD_CLEARTID and CLONE_CHILD_SETTID
-- clone(2), The flags mask
abbrev pub sets_tls : (flags : ℕ) → Bool
sets_tls flags = is_set 19 flags

abbrev pub sets_parent_word : (flags : ℕ) → Bool
sets_parent_word flags = is_set 20 flags

abbrev pub clears_child_word : (flags : ℕ) → Bool
clears_child_word flags = is_set 21 flags

abbrev pub sets_child_word : (flags : ℕ) → Bool
sets_child_word flags = is_set 24 flags

-- those of the flags that either shape may have: CLONE_SYSVSEM and CLONE_DETACHED, which are not looked at, and the
-- four that say what becomes of the thread pointer, of the words that get the child's number and of its clear word
-- clone(2), The flags mask; which they are: profile
abbrev pub free_flags : (flags : ℕ) → ℕ
free_flags flags =
    2 ^ 18 * bit 18 flags + 2 ^ 19 * bit 19 flags + 2 ^ 20 * bit 20 flags + 2 ^ 21 * bit 21 flags
    + 2 ^ 22 * bit 22 flags + 2 ^ 24 * bit 24 flags

-- the flags of a new process: SIGCHLD, which is 17; and those of a new thread: CLONE_VM, CLONE_FS, CLONE_FILES,
-- CLONE_SIGHAND and CLONE_THREAD
-- clone(2), The child termination signal; pthreads(7); that no other shape is taken: profile
abbrev pub process_flags : ℕ
process_flags = 17

abbrev pub thread_flags : ℕ
thread_flags = 2 ^ 8 + 2 ^ 9 + 2 ^ 10 + 2 ^ 11 + 2 ^ 16

abbrev pub is_process : (flags : ℕ) → Bool
is_process flags = flags == process_flags + free_flags flags

abbrev pub is_thread : (flags : ℕ) → Bool
is_thread flags = flags == thread_flags + free_flags flags

-- ---- the child

-- no task more may be made: as many live as may live at once, or there is no number left
-- clone(2), EAGAIN; the number of tasks: profile
abbrev pub is_full : TaskTable → Bool
is_full list = nat_le MOST_LIVE (live_count list) || nat_le LAST_TASK list.last

-- the child's registers: those of the caller behind its call, where the call replied 0; with a stack of its own, where
-- one is given, and with a thread pointer, with CLONE_SETTLS
-- clone(2), DESCRIPTION, CLONE_SETTLS; RISC-V calling conventions: sp is x2, tp is x4
abbrev pub with_stack : (stack : ℕ) → Regs → Regs
with_stack stack r = if stack == 0 then r else with_reg r 2 stack

abbrev pub with_thread_pointer : (flags tls : ℕ) → Regs → Regs
with_thread_pointer flags tls r = if sets_tls flags then with_reg r 4 tls else r

abbrev pub child_registers : (flags stack tls : ℕ) → Regs → Regs
child_registers flags stack tls r = with_thread_pointer flags tls (with_stack stack (replied r (pos 0)))

-- the address of its clear word, or 0
-- clone(2), CLONE_CHILD_CLEARTID
abbrev pub child_clear : (flags child_word : ℕ) → ℕ
child_clear flags child_word = if clears_child_word flags then child_word else 0

-- ---- the words that get its number

-- a word at an address gets a number, where that is asked for; areas have been left so before
-- clone(2), CLONE_PARENT_SETTID, CLONE_CHILD_SETTID
abbrev pub word_set : (task : ℕ) → Bool → AddressSpace → List InHand → (address number : ℕ)
    → Prog (Option Reach)
word_set task asked space hand address number =
    if asked
    then bytes_written_over task space hand address (to_le_bytes w32 number)
    else done (Some (reach_with space hand))

-- ---- the call

-- the names of what the entry of that place makes for a new process: its memory, and its descriptor table
-- profile
abbrev pub made_for_child : (place : ℕ) → Made
made_for_child place = record { place = place; index = 0 }

-- what the arguments are: flags, the stack's end, the address of the caller's word, the thread pointer, the address of
-- the child's word
-- clone(2), C library/kernel differences: riscv
pub record Cloning : Type 0 where
  pub flags : ℕ
  pub stack : ℕ
  pub parent_word : ℕ
  pub tls : ℕ
  pub child_word : ℕ

abbrev pub cloning_of : Args → Cloning
cloning_of args = record {
  flags = args.a0 % 2 ^ 32;
  stack = args.a1;
  parent_word = args.a2;
  tls = args.a3;
  child_word = args.a4;
}

-- a new thread: its word lies in the memory that it shares with the caller
-- clone(2), CLONE_VM, CLONE_THREAD
abbrev pub thread_made : Caller → Cloning → TaskTable → Option Reach → Answer
thread_made c x list None = refuses EFAULT
thread_made c x list (Some reach) =
    replies (pos (list.last + 1))
    ((OfTasks, threaded list c.task (child_clear x.flags x.child_word))
    ∷ (OfTask (list.last + 1), Some (child_registers x.flags x.stack x.tls c.registers))
    ∷ reach_changes c.memory reach)

abbrev pub thread_by : Caller → Cloning → TaskTable → Option Reach → Prog Answer
thread_by c x list None = done (refuses EFAULT)
thread_by c x list (Some reach) =
    word_set c.task (sets_child_word x.flags) reach.space reach.hand x.child_word (list.last + 1)
    >>= λ last. done (thread_made c x list last)

-- a new process: its memory is a copy of the caller's as it was before the call, in which nothing is reserved, and its
-- word lies there
-- fork(2); clone(2), CLONE_CHILD_SETTID; that the caller's word is set behind the copy: clone(2), CLONE_PARENT_SETTID
abbrev pub process_made : Context → Caller → Cloning → TaskTable → AddressSpace → Reach → List Change → Answer
process_made context c x list space reach copies =
    replies (pos (list.last + 1))
    ((
      OfTasks,
      forked list c.task (made_for_child context.place) (made_for_child context.place)
          (child_clear x.flags x.child_word),
    )
    ∷ (OfTask (list.last + 1), Some (child_registers x.flags x.stack x.tls c.registers))
    ∷ (OfSpace c.memory, Some space)
    ∷ reach_changes (made_for_child context.place) reach
    ++ copies)

-- and its descriptor table is a copy of the caller's
-- fork(2): the child inherits copies of the parent's set of open file descriptors
abbrev pub process_with : Context → Caller → Cloning → TaskTable → AddressSpace → Option Reach → Prog Answer
process_with context c x list space None = done (refuses EFAULT)
process_with context c x list space (Some reach) =
    table_copied c.table (made_for_child context.place)
    >>= λ copies. done (process_made context c x list space reach copies)

abbrev pub process_by : Context → Caller → Cloning → TaskTable → Option Reach → Prog Answer
process_by context c x list None = done (refuses EFAULT)
process_by context c x list (Some reach) =
    word_set c.task (sets_child_word x.flags) (unreserved c.space.mapping) reach.hand x.child_word (list.last + 1)
    >>= process_with context c x list reach.space

-- where one more may be made, the caller's word is set first
-- clone(2), ERRORS: EAGAIN, EFAULT; their order: profile
abbrev pub caller_word : Caller → Cloning → TaskTable → Prog (Option Reach)
caller_word c x list = word_set c.task (sets_parent_word x.flags) c.space [] x.parent_word (list.last + 1)

abbrev pub thread_row : Caller → Cloning → TaskTable → Prog Answer
thread_row c x list =
    if is_full list then done (refuses EAGAIN) else caller_word c x list >>= thread_by c x list

abbrev pub process_row : Context → Caller → Cloning → TaskTable → Prog Answer
process_row context c x list =
    if is_full list then done (refuses EAGAIN) else caller_word c x list >>= process_by context c x list

-- clone(flags, stack, parent_word, tls, child_word): a new process or a new thread; flags are the low 32 bits, and the
-- reply is the child's number
-- clone(2), ERRORS: EINVAL, EAGAIN, EFAULT; their order: profile
abbrev pub clone_of : Context → Caller → Cloning → Prog Answer
clone_of context c x =
    if is_process x.flags then look OfTasks (process_row context c x)
    else if is_thread x.flags then look OfTasks (thread_row c x)
    else done (refuses EINVAL)

abbrev pub clone_row : Context → Args → Caller → Prog Answer
clone_row context args c = clone_of context c (cloning_of args)
