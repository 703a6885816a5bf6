-- What an entry does: it is defined exactly where the entry fits the state.
use Rattle.std.specs.Prelude.{ℕ, ◌+◌, ◌==◌, nat_le, ℤ, pos, List, length, [], ◌∷◌}
use Rattle.std.specs.Prelude.{◌++◌, Bool, true, false, ◌&&◌, Option, Some}
use Rattle.std.specs.Prelude.{None}
use Rattle.std.specs.Prelude.{if◌then◌else◌, option_map}
use Rattle.std.specs.List.{list_all, list_any}
use Rattle.std.specs.Str.{bytes_eq}
use Rattle.std.specs.Ordering.{int_eq}
use Rattle.sn_errno.specs.declared.errno.Errno.{Errno}
use Rattle.sn_errno.specs.declared.errno.Errno.TheVariants.{EIO, ENFILE}
use Rattle.sn_errno.specs.Errors.{reply_of}
use Rattle.rv_table.specs.declared.registers.Regs.{Regs}
use Rattle.futex_core.specs.Waiters.{after_leave}
use Rattle.mm_space.specs.Handed.{InHand}
use Rattle.task_table.specs.declared.task.Status.TheVariants.{Killed}
use Rattle.quantum.specs.declared.run.TheConstants.{QUANTUM}
use Rattle.quantum.specs.Instructions.{GoingTask, ran}
use Rattle.kernel_model.specs.declared.caller.Caller.{Caller}
use Rattle.kernel_model.specs.declared.entry.Args.{Args}
use Rattle.kernel_model.specs.declared.entry.Entry.{Entry}
use Rattle.kernel_model.specs.declared.entry.Entry.TheVariants.{Run, Call, Sleep, End}
use Rattle.kernel_model.specs.declared.kernel.Kernel.{Kernel}
use Rattle.kernel_model.specs.declared.kernel.Part.{Part}
use Rattle.kernel_model.specs.declared.kernel.Part.TheVariants.{OfTask, OfSpace, OfSleepers}
use Rattle.kernel_model.specs.declared.opening.Fresh.{Fresh}
use Rattle.kernel_model.specs.declared.opening.Given.{Given}
use Rattle.kernel_model.specs.declared.traps.Next.{Next}
use Rattle.kernel_model.specs.declared.traps.Next.TheVariants.{Goes, Calls, Traps, Touches}
use Rattle.kernel_model.specs.machine.Instructions.{next_of}
use Rattle.kernel_model.specs.machine.Registers.{args_of, call_of, replied}
use Rattle.kernel_model.specs.machine.Spaces.{acting_in, going_in, going_with}
use Rattle.kernel_model.specs.calls.Answers.{RowReply, Replies, Sleeps, NotReady, Key, Answer}
use Rattle.kernel_model.specs.calls.Callers.{Context, context_of, caller_of}
use Rattle.kernel_model.specs.calls.Ending.{group_end}
use Rattle.kernel_model.specs.calls.Table.{call_row}
use Rattle.kernel_model.specs.files.FileTree.{Nodes}
use Rattle.kernel_model.specs.entries.Areas.{Stands, next_row, area_changes}
use Rattle.kernel_model.specs.entries.Given.{has_any, is_in_order, above_last, Nodes_so_far, number_all, node_changes}
use Rattle.kernel_model.specs.entries.Given.{faulted, is_quiet, may_meet}
use Rattle.kernel_model.specs.entries.Parts.{parts, Prog, done, look, outcome_in, uses, ◌>>=◌, Change, changed}
use Rattle.kernel_model.specs.entries.Parts.{parts_changed}
use Rattle.kernel_model.specs.entries.Waiting.{Wait, Awake, Asleep, Woken, wait_of}

-- a task has these registers
-- profile
abbrev pub task_change : (task : ℕ) → Regs → Change
task_change task registers = (OfTask task, Some registers)

-- what the next instruction of a task does with no shared area in hand
-- RISC-V Unprivileged ISA 20191213, 1.2
abbrev pub next_in : Caller → Next
next_in c = next_of (acting_in c.task c.space) c.registers

-- what instructions leave: the task's registers, its address space, and the shared areas that they had in hand
-- profile
abbrev pub run_changes : Caller → GoingTask → List Change
run_changes c g =
    (OfSpace c.memory, Some g.acting.reach.space) ∷ task_change c.task g.registers ∷ area_changes g.acting.reach.hand

-- the next n instructions, at least one and no more than a run may have, none of which traps, calls or touches a shared
-- area
-- profile
abbrev pub run_alone : ℕ → Caller → Option (List Change)
run_alone n c =
    if nat_le 1 n && nat_le n QUANTUM
    then option_map (run_changes c) (ran n (going_in c.task c.space c.registers))
    else None

-- the next instruction alone, with the shared areas that it touches
-- mmap(2), MAP_SHARED; that it is an entry of its own: profile
abbrev pub step_with : Caller → List InHand → Option (List Change)
step_with c hand = option_map (run_changes c) (ran 1 (going_with c.task c.space hand c.registers))

abbrev pub step_row : Caller → Prog (Option (List Change))
step_row c = next_row c >>= λ (s : Stands). done (step_with c s.hand)

-- Run: the next n instructions, or the next one that touches a shared area
-- profile
abbrev pub or_step : ℕ → Caller → Option (List Change) → Prog (Option (List Change))
or_step n c (Some changes) = done (Some changes)
or_step n c None = if n == 1 then step_row c else done None

abbrev pub run_row : ℕ → Caller → Prog (Option (List Change))
run_row n c = or_step n c (run_alone n c)

-- End: the next instruction traps with that signal, which ends the group
-- signal(7), Term; profile
abbrev pub killed : ℕ → Caller → Prog (Option (List Change))
killed signal c = group_end c (Killed signal) >>= λ changes. done (Some changes)

abbrev pub end_at : ℕ → Caller → Next → Prog (Option (List Change))
end_at signal c (Traps s) = if s == signal then killed signal c else done None
end_at signal c Goes = done None
end_at signal c Calls = done None
end_at signal c (Touches area) = done None

abbrev pub end_row : ℕ → Caller → Prog (Option (List Change))
end_row signal c = next_row c >>= λ (s : Stands). end_at signal c s.next

-- the caller goes on behind its call, with the reply
-- syscall(2)
abbrev pub going_on : Caller → ℤ → List Change
going_on c value = task_change c.task (replied c.registers value) ∷ []

-- the call's changes, where its reply is that of the entry; one that replies nothing so far has none
-- syscall(2)
abbrev pub replied_by : Caller → ℤ → List Change → RowReply → Option (List Change)
replied_by c reply changes (Replies value) = if int_eq reply value then Some (changes ++ going_on c value) else None
replied_by c reply changes Sleeps = None
replied_by c reply changes NotReady = None

-- with the children numbered that the call names
-- inode(7), st_ino
abbrev pub replied_to : Caller → ℤ → Option Nodes_so_far → Answer → Option (List Change)
replied_to c reply None answer = None
replied_to c reply (Some nodes) answer = replied_by c reply (node_changes nodes ++ answer.changes) answer.reply

-- a call that is refused with an error, of which nothing is left but these changes
-- syscall(2)
abbrev pub refused_with : Caller → ℤ → Errno → Option (List Change) → Option (List Change)
refused_with c reply errno None = None
refused_with c reply errno (Some changes) =
    if int_eq reply (reply_of errno) then Some (changes ++ going_on c (reply_of errno)) else None

-- a call in which a host call failed answers EIO
-- profile
abbrev pub failing : Caller → ℤ → Given → Prog (Option (List Change))
failing c reply given = faulted given >>= λ changes. done (refused_with c reply EIO changes)

-- a fresh number is of a child that the call names; all of them are, and it names no other
-- profile
abbrev pub is_key : Fresh → Key → Bool
is_key f key = (f.dir == key.dir) && bytes_eq f.name key.name

abbrev pub are_named_fresh : List Fresh → List Key → Bool
are_named_fresh fresh keys = list_all (λ f. list_any (is_key f) keys) fresh

abbrev pub are_just : List Fresh → List Key → Bool
are_just fresh keys = are_named_fresh fresh keys && (length fresh == length keys)

-- a call that drew a number above the greatest: nothing is left of it but the numbers up to that
-- openat(2), ERRORS, ENFILE; profile
abbrev pub exhausted : Caller → ℤ → Given → Prog (Option (List Change))
exhausted c reply given =
    number_all given.fresh [] >>= λ nodes. done (refused_with c reply ENFILE (option_map node_changes nodes))

-- a call that replies, and numbers the children that it names
-- inode(7), st_ino; profile
abbrev pub numbering : Caller → ℤ → Given → Answer → Prog (Option (List Change))
numbering c reply given answer = number_all given.fresh [] >>= λ nodes. done (replied_to c reply nodes answer)

-- a call that met no fault: where it drew a number above the greatest it answers ENFILE, and else what its row says,
-- with just the numbers of the children that it names
-- openat(2), ERRORS, ENFILE; profile
abbrev pub by_answer : Caller → ℤ → Given → Answer → Prog (Option (List Change))
by_answer c reply given answer =
    if list_any above_last given.fresh
    then (if are_named_fresh given.fresh answer.fresh then exhausted c reply given else done None)
    else (if are_just given.fresh answer.fresh then numbering c reply given answer else done None)

-- a call by what it met: with a rise it failed
-- profile
abbrev pub by_given : Context → Caller → (call : ℕ) → Args → ℤ → Given → Prog (Option (List Change))
by_given context c call args reply given =
    if is_in_order given
    then (if has_any given.rises
    then failing c reply given
    else call_row context c call args >>= by_answer c reply given)
    else done None

abbrev pub same_args : Args → Args → Bool
same_args a b = (a.a0 == b.a0) && (a.a1 == b.a1) && (a.a2 == b.a2) && (a.a3 == b.a3) && (a.a4 == b.a4) && (a.a5 == b.a5)

-- a task stands at a call of that number, with those arguments
-- syscall(2), riscv; RISC-V Unprivileged ISA 20191213, 2.8
abbrev pub stands_at : (call : ℕ) → Args → Regs → Next → Bool
stands_at call args registers Calls = (call_of registers == call) && same_args (args_of registers) args
stands_at call args registers Goes = false
stands_at call args registers (Traps signal) = false
stands_at call args registers (Touches area) = false

-- a call that a task stands at
-- syscall(2)
abbrev pub call_at : Context → Caller → (call : ℕ) → Args → ℤ → Given → Next → Prog (Option (List Change))
call_at context c call args reply given next =
    if stands_at call args c.registers next then by_given context c call args reply given else done None

-- Call, of a task that is not on the futex list: the call that its next instruction makes
-- syscall(2)
abbrev pub call_entry : Context → Caller → (call : ℕ) → Args → ℤ → Given → Prog (Option (List Change))
call_entry context c call args reply given =
    next_row c >>= λ (s : Stands). call_at context c call args reply given s.next

-- Call, of a task that was woken: the call that it slept in replies 0, whatever its code has become, and the task
-- leaves the futex list
-- futex(2), RETURN VALUE, FUTEX_WAIT; that such a call draws and meets nothing: profile
abbrev pub woken_at : Caller → (call : ℕ) → Args → ℤ → Given → Bool
woken_at c call args reply given = stands_at call args c.registers Calls && is_quiet given && int_eq reply (pos 0)

abbrev pub woken_entry : Caller → (call : ℕ) → Args → ℤ → Given → Prog (Option (List Change))
woken_entry c call args reply given =
    if woken_at c call args reply given
    then look OfSleepers (λ list. done (Some ((OfSleepers, after_leave list c.task) ∷ going_on c (pos 0))))
    else done None

-- Sleep: the next instruction makes a call that puts its task to sleep
-- futex(2), FUTEX_WAIT; that it is an entry of its own: profile
abbrev pub slept_by : Answer → RowReply → Option (List Change)
slept_by answer Sleeps = Some answer.changes
slept_by answer (Replies value) = None
slept_by answer NotReady = None

abbrev pub sleep_at : Context → Caller → Next → Prog (Option (List Change))
sleep_at context c Calls =
    call_row context c (call_of c.registers) (args_of c.registers)
    >>= λ (answer : Answer). done (slept_by answer answer.reply)
sleep_at context c Goes = done None
sleep_at context c (Traps signal) = done None
sleep_at context c (Touches area) = done None

abbrev pub sleep_row : Context → Caller → Prog (Option (List Change))
sleep_row context c = next_row c >>= λ (s : Stands). sleep_at context c s.next

-- what an entry of a live task changes, or None where it does not fit; one that sleeps makes none, and one that was
-- woken makes the call that it slept in
-- profile
abbrev pub row_of : Context → Entry → Caller → Wait → Prog (Option (List Change))
row_of context (Run task n) c Awake = run_row n c
row_of context (Call task call args given reply) c Awake = call_entry context c call args reply given
row_of context (Sleep task) c Awake = sleep_row context c
row_of context (End task signal) c Awake = end_row signal c
row_of context (Call task call args given reply) c Woken = woken_entry c call args reply given
row_of context (Run task n) c Woken = done None
row_of context (Sleep task) c Woken = done None
row_of context (End task signal) c Woken = done None
row_of context entry c Asleep = done None

abbrev pub task_of : Entry → ℕ
task_of (Run task n) = task
task_of (Call task call args given reply) = task
task_of (Sleep task) = task
task_of (End task signal) = task

abbrev pub if_live : Context → Entry → Option Caller → Prog (Option (List Change))
if_live context entry None = done None
if_live context entry (Some c) = look OfSleepers (λ list. row_of context entry c (wait_of list c.task))

abbrev pub entry_row : Context → Entry → Prog (Option (List Change))
entry_row context entry = caller_of (task_of entry) >>= if_live context entry

-- a kernel after an entry's changes, with one entry more
-- profile
abbrev pub stepped : Kernel → List Change → Kernel
stepped k changes = record (changed changes k) { entries = k.entries + 1 }

-- an entry may be made where these nodes have numbers: its call draws numbers that are unused, and meets faults of
-- nodes that have numbers
-- profile
abbrev pub may_enter : Nodes → Entry → Bool
may_enter nodes (Run task n) = true
may_enter nodes (Call task call args given reply) = may_meet nodes given
may_enter nodes (Sleep task) = true
may_enter nodes (End task signal) = true

-- the kernel after an entry, or None where the entry does not fit
-- profile
unfoldable pub step : Kernel → Entry → Option Kernel
step k entry =
    if may_enter k.nodes entry
    then option_map (stepped k) (outcome_in (parts k) (entry_row (context_of k) entry))
    else None

-- the parts that an entry reads, and those that it changes
-- profile
abbrev pub used : Kernel → Entry → List Part
used k entry = uses (parts k) (entry_row (context_of k) entry)

abbrev pub touched : Option (List Change) → List Part
touched None = []
touched (Some changes) = parts_changed changes

abbrev pub touches : Kernel → Entry → List Part
touches k entry = touched (outcome_in (parts k) (entry_row (context_of k) entry))
