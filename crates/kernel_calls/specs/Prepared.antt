-- What the code's answers to calls and instructions stand for.
use Rattle.std.specs.Prelude.{◌≡◌, ℕ, ◌+◌, ⊤, Option, Some, None, IsTrue, IsFalse, true, List, [], ◌∷◌}
use Rattle.std.specs.Prelude.{length, pos}
use Rattle.std.specs.FinMap as map
use Rattle.fd_table.specs.Tables.{Table}
use Rattle.rv_table.specs.declared.error.Area.{Area}
use Rattle.mm_space.specs.Handed.{AreaState}
use Rattle.mm_space.specs.Spaces.{AddressSpace}
use Rattle.futex_core.specs.Waiters.{FutexList, after_sleep, after_wake}
use Rattle.task_table.specs.declared.task.Status.{Status}
use Rattle.task_table.specs.Ends.{ended_tasks, exited, group_ended, is_itself, is_member}
use Rattle.task_table.specs.Reaps.{after_reap, reap_end}
use Rattle.task_table.specs.Table.{TaskTable, has_ended, is_live}
use Rattle.kernel_model.specs.Names.{NamedMap, get_named}
use Rattle.kernel_model.specs.declared.caller.Caller.{Caller}
use Rattle.sn_base.specs.declared.made.Made.{Made}
use Rattle.kernel_model.specs.declared.kernel.Kernel.{Kernel}
use Rattle.kernel_model.specs.declared.open_files.OpenFiles.{OpenFiles}
use Rattle.kernel_model.specs.declared.kernel.Part.TheVariants.{OfTasks, OfArea, OfTable, OfDescription, OfPipe}
use Rattle.kernel_model.specs.declared.kernel.Part.TheVariants.{OfSleepers}
use Rattle.kernel_model.specs.calls.Answers.{Answer, replies, sleeps, not_ready}
use Rattle.kernel_model.specs.calls.Callers.{Context as RowContext}
use Rattle.kernel_model.specs.calls.Ending.{clear_set, group_end, left_by, woken_on}
use Rattle.kernel_model.specs.laws.Room.{IsRoomFor}
use Rattle.kernel_model.specs.laws.Files.{without_table}
use Rattle.kernel_model.specs.entries.Parts.{Parts, parts, Prog, outcome_in, Change, changed}
use Rattle.file_changes.specs.Changes.{files_after}
use Rattle.kernel_calls.specs.Making.{with_new_child}
use Rattle.guest_access.specs.Memories.{with_memory}
use Rattle.kernel_calls.specs.declared.context.Context.{Context}
use Rattle.kernel_calls.specs.declared.clone.ClonedTask.{ClonedTask}
use Rattle.kernel_calls.specs.declared.prepared.Awaited.{Awaited}
use Rattle.kernel_calls.specs.declared.prepared.Called.{Called}
use Rattle.kernel_calls.specs.declared.prepared.Called.TheVariants.{Replies, Makes, Sleeps, Waits}
use Rattle.kernel_calls.specs.declared.prepared.Effect.{Effect}
use Rattle.kernel_calls.specs.declared.prepared.Effect.TheVariants.{Nothing, EndsGroup, EndsTask, SetsClear}
use Rattle.kernel_calls.specs.declared.prepared.Effect.TheVariants.{Wakes, Reaps, ChangesFiles}
use Rattle.kernel_calls.specs.declared.prepared.Ending.{Ending}
use Rattle.kernel_calls.specs.declared.prepared.Prepared.{Prepared}
use Rattle.kernel_calls.specs.declared.prepared.UsedEnd.{UsedEnd}

-- the futex list without tasks that have ended, after one waiter on each word that was cleared was woken
-- _exit(2); set_tid_address(2)
abbrev pub left_behind : Ending → FutexList → FutexList
left_behind ending waiting = woken_on ending.cleared (left_by ending.ended waiting)

-- what is open once a descriptor table was closed, where an end names one
-- _exit(2), DESCRIPTION
abbrev pub with_closed : Option Made → OpenFiles → OpenFiles
with_closed None files = files
with_closed (Some name) files = without_table name files

-- what an effect of a thread group leaves of a kernel
-- exit_group(2); _exit(2); set_tid_address(2); futex(2), FUTEX_WAKE; wait4(2); dup(2); fcntl(2); close(2)
abbrev pub with_effect : Effect → (group : ℕ) → Kernel → Kernel
with_effect Nothing group k = k
with_effect (EndsGroup ending) group k = record k {
  tasks = group_ended k.tasks group ending.status;
  sleepers = left_behind ending k.sleepers;
  files = with_closed ending.closes k.files;
}
with_effect (EndsTask task ending) group k = record k {
  tasks = exited k.tasks task ending.status;
  sleepers = left_behind ending k.sleepers;
  files = with_closed ending.closes k.files;
}
with_effect (SetsClear task address) group k = record k { tasks = clear_set task address k.tasks }
with_effect (Wakes key most) group k = record k { sleepers = after_wake k.sleepers key most }
with_effect (Reaps which) group k =
    record k { tasks = after_reap k.tasks (reap_end k.tasks.groups group which) }
with_effect (ChangesFiles table change) group k = record k { files = files_after change table k.files }

-- a task at a call, in a kernel: with its number and its group's, with its address space and the shared areas as they
-- are, with that task list, that futex list and so many bytes on the console, and the key and the place of the call's
-- entry
-- syscall(2); profile
pub record IsCalling (c : Caller) (k : Kernel) (context : Context) (own : AddressSpace) (shared : NamedMap AreaState)
    (list : TaskTable) (waiting : FutexList) (taken : ℕ) : Type 0 where
  pub task : c.task ≡ context.task
  pub group : c.group ≡ context.group
  pub memory : c.memory ≡ context.memory
  pub table : c.table ≡ context.table
  pub place : k.entries + 1 ≡ context.place
  pub seed : k.seed ≡ context.seed.now
  pub space : c.space ≡ own
  pub there : get_named k.spaces c.memory.place c.memory.index ≡ Some c.space
  pub areas : k.areas ≡ shared
  pub tasks : k.tasks ≡ list
  pub sleepers : k.sleepers ≡ waiting
  pub console : length k.console ≡ taken

-- the table of a task's descriptors is that one, or none is there
-- open(2), DESCRIPTION
abbrev pub HasTable : Caller → Kernel → Option Table → Type 0
HasTable c k table = get_named k.files.tables c.table.place c.table.index ≡ table

-- a task whose address space is this, in a kernel that has it
-- profile
pub record HasSpace (c : Caller) (k : Kernel) (own : AddressSpace) : Type 0 where
  pub space : c.space ≡ own
  pub there : get_named k.spaces c.memory.place c.memory.index ≡ Some c.space

-- a row comes to what a call prepared that leaves memory as it is: the same reply, and its changes leave what the
-- effect does
-- syscall(2)
pub record AnswersKept (row : Prog Answer) (p : Prepared) (group : ℕ) (k : Kernel) : Type 0 where
  pub changes : List Change
  pub row_is : outcome_in (parts k) row ≡ replies p.reply changes
  pub done_is : changed changes k ≡ with_effect p.effect group k

-- a row comes to what a call prepared: the same reply, and its changes leave what the effect does beside what the
-- address space and the shared areas are then
-- syscall(2)
pub record Answers (row : Prog Answer) (p : Prepared) (c : Caller) (k : Kernel) (space : AddressSpace)
    (areas : NamedMap AreaState) : Type 0 where
  pub changes : List Change
  pub row_is : outcome_in (parts k) row ≡ replies p.reply changes
  pub done_is : changed changes k ≡ with_effect p.effect c.group (with_memory c space areas k)

-- a row comes to a child that is made, whose number is the reply
-- clone(2), RETURN VALUE
pub record MakesChild (row : Prog Answer) (child : ClonedTask) (c : Caller) (k : Kernel) : Type 0 where
  pub changes : List Change
  pub row_is : outcome_in (parts k) row ≡ replies (pos (k.tasks.last + 1)) changes
  pub done_is : changed changes k ≡ with_new_child child (k.entries + 1) c k

-- a row comes to what has become of a call: it replies, or makes a child, or puts its task to sleep, or waits
-- syscall(2); futex(2), FUTEX_WAIT
abbrev pub Comes : Prog Answer → Called → Caller → Kernel → AddressSpace → NamedMap AreaState → Type 0
Comes row (Replies p) c k space areas = Answers row p c k space areas
Comes row (Makes child) c k space areas = MakesChild row child c k
Comes row (Sleeps key) c k space areas =
    outcome_in (parts k) row ≡ sleeps ((OfSleepers, after_sleep k.sleepers c.task key) ∷ [])
Comes row (Waits awaited) c k space areas = outcome_in (parts k) row ≡ not_ready

-- the thread group of a task ends with a status, as it was prepared: the changes of that end leave what the effect does
-- beside what the address space and the shared areas are then
-- exit_group(2); signal(7), Term
pub record EndsGroupAs (status : Status) (e : Ending) (c : Caller) (k : Kernel) (space : AddressSpace)
    (areas : NamedMap AreaState) : Type 0 where
  pub is_so : e.status ≡ status
  pub done_is : changed (outcome_in (parts k) (group_end c status)) k
      ≡ with_effect (EndsGroup e) c.group (with_memory c space areas k)

-- what is left to do takes memory, or there is nothing to do
-- profile
abbrev pub IsApart : Called → Type 0
IsApart (Replies p) = ⊥
IsApart (Makes child) = ⊤
IsApart (Sleeps key) = ⊤
IsApart (Waits awaited) = ⊤

-- a task that a call ends is its caller
-- _exit(2)
abbrev pub EndsOnly : Effect → (task : ℕ) → Type 0
EndsOnly Nothing task = ⊤
EndsOnly (EndsGroup ending) task = ⊤
EndsOnly (EndsTask ended ending) task = ended ≡ task
EndsOnly (SetsClear setter address) task = ⊤
EndsOnly (Wakes key most) task = ⊤
EndsOnly (Reaps which) task = ⊤
EndsOnly (ChangesFiles table change) task = ⊤

abbrev pub EndsCaller : Called → (task : ℕ) → Type 0
EndsCaller (Replies p) task = EndsOnly p.effect task
EndsCaller (Makes child) task = ⊤
EndsCaller (Sleeps key) task = ⊤
EndsCaller (Waits awaited) task = ⊤

-- the tasks that a call ends are the caller, or each live one of its thread group
-- _exit(2); exit_group(2)
abbrev pub EndsEach : Effect → (task group : ℕ) → TaskTable → Type 0
EndsEach Nothing task group list = ⊤
EndsEach (EndsGroup ending) task group list = ending.ended ≡ ended_tasks (is_member group) list.tasks
EndsEach (EndsTask ended ending) task group list = ending.ended ≡ ended_tasks (is_itself task) list.tasks
EndsEach (SetsClear setter address) task group list = ⊤
EndsEach (Wakes key most) task group list = ⊤
EndsEach (Reaps which) task group list = ⊤
EndsEach (ChangesFiles table change) task group list = ⊤

abbrev pub EndsTheirs : Called → (task group : ℕ) → TaskTable → Type 0
EndsTheirs (Replies p) task group list = EndsEach p.effect task group list
EndsTheirs (Makes child) task group list = ⊤
EndsTheirs (Sleeps key) task group list = ⊤
EndsTheirs (Waits awaited) task group list = ⊤

-- a fact of what a call used that waits
-- profile
abbrev pub IfWaits : Called → (Awaited → Type 0) → Type 0
IfWaits (Replies p) fact = ⊤
IfWaits (Makes child) fact = ⊤
IfWaits (Sleeps key) fact = ⊤
IfWaits (Waits awaited) fact = fact awaited

-- a state holds the same as another in a descriptor table, an open file description and a pipe, where a call used an
-- end of a pipe
-- read(2); write(2); pipe(7)
abbrev pub AgreesOnEnd : Option UsedEnd → (table : Made) → (these those : Parts) → Type 0
AgreesOnEnd None table these those = ⊤
AgreesOnEnd (Some end) table these those =
    (those (OfTable table) ≡ these (OfTable table))
    × (those (OfDescription end.description) ≡ these (OfDescription end.description))
    × (those (OfPipe end.pipe) ≡ these (OfPipe end.pipe))

-- a state holds the same as another in what a call used of a task with this descriptor table: the task list, the end of
-- a pipe that it used, and each shared area where it looked into any
-- wait4(2); read(2); write(2); mmap(2), MAP_SHARED
pub record AgreesOn (awaited : Awaited) (table : Made) (these those : Parts) : Type 0 where
  pub tasks : those OfTasks ≡ these OfTasks
  pub end : AgreesOnEnd awaited.end table these those
  pub areas : awaited.areas ≡ true → (name : Area) → those (OfArea name) ≡ these (OfArea name)

-- a row waits in each state that holds the same as another in what the call used
-- wait4(2); read(2); write(2)
abbrev pub WaitsWith : Awaited → (table : Made) → Parts → (RowContext → Prog Answer) → Type 0
WaitsWith awaited table these row =
    (context : RowContext) (those : Parts) → AgreesOn awaited table these those
    → outcome_in those (row context) ≡ not_ready

-- where a call makes a child there is room for one
-- clone(2), EAGAIN
abbrev pub HasRoomFor : Called → TaskTable → Type 0
HasRoomFor (Replies p) list = ⊤
HasRoomFor (Makes child) list = IsRoomFor list
HasRoomFor (Sleeps key) list = ⊤
HasRoomFor (Waits awaited) list = ⊤

-- a group that an effect ends is there, and has not ended; a task that it ends lives
-- exit_group(2), _exit(2)
abbrev pub EndsLive : Effect → (group : ℕ) → TaskTable → Type 0
EndsLive Nothing group list = ⊤
EndsLive (EndsGroup ending) group list =
    IsTrue (map.contains_key list.groups group) × IsFalse (has_ended list.groups group)
EndsLive (EndsTask task ending) group list = IsTrue (is_live list.tasks task)
EndsLive (SetsClear task address) group list = ⊤
EndsLive (Wakes key most) group list = ⊤
EndsLive (Reaps which) group list = ⊤
EndsLive (ChangesFiles table change) group list = ⊤
