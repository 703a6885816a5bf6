-- What the clauses of a run speak of: the state that its trace leaves, and the world then.
use Rattle.std.specs.Prelude.{◌≡◌, ◌⊎◌, ℕ, ◌+◌, List, [], ◌∷◌, length, take, Bool, true, false, All, AllPairs, Option}
use Rattle.std.specs.Prelude.{Some, None, IsSome, IfSome, IsSomeAnd, ⊤, is_some, option_and_then, option_map}
use Rattle.std.specs.Prelude.{if◌then◌else◌}
use Rattle.host_node.specs.Tree.{Shape}
use Rattle.host_node.specs.Routes.{directory_at}
use Rattle.sn_edge.specs.Shelf.{Shelf, content_at}
use Rattle.sn_errno.specs.declared.errno.Errno.{Errno}
use Rattle.kernel_model.specs.declared.entry.Entry.{Entry}
use Rattle.kernel_model.specs.declared.kernel.Kernel.{Kernel}
use Rattle.mount_file.specs.declared.read.TheConstants.{LONGEST_MOUNT_FILE}
use Rattle.mount_file.specs.declared.mounts.Mounts.{Mounts}
use Rattle.mount_file.specs.declared.mounts.Mount.{Mount}
use Rattle.kernel_model.specs.declared.opening.Opening.{Opening}
use Rattle.kernel_model.specs.declared.opening.Left.{Left}
use Rattle.kernel_model.specs.Words.{Command}
use Rattle.mount_file.specs.MountFile.{IsMountFile, IsFaultOf}
use Rattle.mount_file.specs.declared.mounts.MountFault.{MountFault}
use Rattle.kernel_model.specs.opening.Opening.{Begun, Opens, Refuses, Misfits, opening_of}
use Rattle.kernel_model.specs.entries.History.{replay, each_whole, any_live}
use Rattle.kernel_model.specs.printed.Printed.{printed}
use Rattle.std.specs.FinMap as map
use Rattle.kernel_model.specs.declared.kernel.Node.{Node}
use Rattle.kernel_model.specs.declared.opening.Fresh.{Fresh}
use Rattle.kernel_model.specs.files.FileTree.{Child, Missing, child_at}
use Rattle.kernel_model.specs.files.Numbers.{IsUnnumbered, left_fresh}
use Rattle.kernel_model.specs.files.Settled.{tree_now, settled, outside}
use Rattle.sentry_run.specs.Concluded.{IsCutOff, StopsShort}
use Rattle.sentry_run.specs.LeftTasks.{MayBeLeft}
use Rattle.sentry_run.specs.Played.{IsStuck}
use Rattle.sentry_run.specs.declared.outcome.Fault.{Fault}
use Rattle.sentry_run.specs.declared.outcome.Outcome.{Outcome}
use Rattle.sentry_run.specs.declared.outcome.Fault.TheVariants.{SinkFault, Memory}

-- a fact of what an object tells, where it tells
-- profile
abbrev pub WhereTold : {A : Type 0} → Option A → (A → Type 0) → Type 0
WhereTold None fact = ⊤
WhereTold (Some a) fact = fact a

-- ---- the mount file

-- how many bytes of a mount file are read at most: one more than it may have
-- profile
abbrev pub most_read : ℕ
most_read = LONGEST_MOUNT_FILE + 1

-- the bytes that are read of the file that a command names, where it is there: all, or the first 65,537
-- open(2), ENOENT; the number: profile
abbrev pub command_bytes : Command → Shelf → Option (List ℕ)
command_bytes command shelf = option_map (take most_read) (content_at shelf.files command.mounts)

-- the file that a command names is there, and what is read of it is a mount file that says this
-- profile
abbrev pub NamesMountFile : Command → Shelf → Mounts → Type 0
NamesMountFile command shelf mounts = IsSomeAnd (command_bytes command shelf) (λ bytes. IsMountFile bytes mounts)

-- it is there, and this is the first fault of what is read of it
-- profile
abbrev pub NamesFaulty : Command → Shelf → MountFault → Type 0
NamesFaulty command shelf fault = IsSomeAnd (command_bytes command shelf) (λ bytes. IsFaultOf bytes fault)

-- what was read is what the file says
-- profile
abbrev pub ReadsMounts : Option Command → Option Shelf → Option Mounts → Type 0
ReadsMounts None shelf mounts = mounts ≡ None
ReadsMounts (Some command) shelf mounts = WhereTold shelf (λ s. IfSome mounts (NamesMountFile command s))

-- this is the first fault of what was read of the file that a command names
-- profile
abbrev pub HasMountFault : Option Command → Option Shelf → MountFault → Type 0
HasMountFault None shelf fault = ⊥
HasMountFault (Some command) shelf fault = WhereTold shelf (λ s. NamesFaulty command s fault)

-- a command names a file whose bytes are told, and this is their first fault
-- profile
abbrev pub MeetsFault : Option Command → Option Shelf → MountFault → Type 0
MeetsFault (Some command) (Some shelf) fault = NamesFaulty command shelf fault
MeetsFault _ _ fault = ⊥

-- a command names a file that a source which tells its files hasn't got
-- open(2), ENOENT
abbrev pub LacksFile : Option Command → Option Shelf → Type 0
LacksFile (Some command) (Some shelf) = content_at shelf.files command.mounts ≡ None
LacksFile _ _ = ⊥

-- ---- the opening and the state

-- the granted trees of mounts, in order, where each folder is there
-- profile
abbrev pub granted : List Mount → Shape → Option (List Shape)
granted [] world = Some []
granted (m ∷ mounts) world =
    option_and_then (λ t. option_map (λ ts. t ∷ ts) (granted mounts world)) (directory_at m.folder.names world)

-- the number of the first mount whose folder the world lacks, where that is the number of the first of these mounts
-- profile
abbrev pub first_lacking : (number : ℕ) → List Mount → Shape → Option ℕ
first_lacking number [] world = None
first_lacking number (m ∷ mounts) world =
    if is_some (directory_at m.folder.names world) then first_lacking (number + 1) mounts world else Some number

-- what the opening over the granted trees comes to
-- profile
abbrev pub begun_over : Mounts → Opening → Option (List Shape) → Begun
begun_over mounts opening None = Misfits 0
begun_over mounts opening (Some trees) = opening_of mounts trees opening

abbrev pub begun : Mounts → Shape → Opening → Begun
begun mounts world opening = begun_over mounts opening (granted mounts.mounts world)

-- the kernel that an opening starts, and the one that a refused opening leaves
-- profile
abbrev pub started_kernel : Begun → Option Kernel
started_kernel (Opens k) = Some k
started_kernel (Refuses k task errno) = None
started_kernel (Misfits task) = None

-- the state that a trace leaves from the opening: none where the trace is no history
-- profile
abbrev pub state_after : Mounts → Shape → Opening → List Entry → Option Kernel
state_after mounts world opening trace =
    option_and_then (λ (k : Kernel). replay k trace) (started_kernel (begun mounts world opening))

-- the mount file, where it was accepted, and the world's tree, where it is told
-- profile
abbrev pub WhereRead : Option Mounts → Option Shape → (Mounts → Shape → Type 0) → Type 0
WhereRead None world fact = ⊤
WhereRead (Some mounts) None fact = ⊤
WhereRead (Some mounts) (Some world) fact = fact mounts world

-- a fact of the state that the trace leaves, where there is one
-- profile
abbrev pub WhereState : Option Mounts → Option Shape → Opening → List Entry
    → (Mounts → Shape → Kernel → Type 0) → Type 0
WhereState mounts world opening trace fact =
    WhereRead mounts world (λ m w. IfSome (state_after m w opening trace) (fact m w))

-- the trace is a history from the opening: each of its steps is defined, and each Run of it is whole
-- profile
pub record IsHistory (mounts : Mounts) (world : Shape) (opening : Opening) (trace : List Entry) : Type 0 where
  pub start : Kernel
  pub opens : begun mounts world opening ≡ Opens start
  pub defined : IsSome (replay start trace)
  pub whole : each_whole start trace ≡ true

-- the opening execve of that task answers that error, and leaves this kernel
-- execve(2), ERRORS
abbrev pub RefusesOpening : Begun → (task : ℕ) → Errno → Type 0
RefusesOpening begun task errno = (k : Kernel) × (begun ≡ Refuses k task errno)

abbrev pub refused_kernel : Begun → Option Kernel
refused_kernel (Opens k) = None
refused_kernel (Refuses k task errno) = Some k
refused_kernel (Misfits task) = None

-- ---- how a run came out

-- no task lives, or the trace is full, or none of the tasks that live has a ready step
-- profile
abbrev pub IsOver : Mounts → List Entry → Kernel → Type 0
IsOver mounts trace k =
    (any_live k ≡ false) ⊎ ((any_live k ≡ true) × (length trace ≡ mounts.entries)) ⊎ IsStuck mounts trace k

-- ---- the text

-- whether the words ask for the trace
-- profile
abbrev pub asks_trace : Option Command → Bool
asks_trace None = false
asks_trace (Some command) = command.trace

-- an answer of a run that is over: it came out so, or before the text's end the sink failed or memory ran out
-- profile
abbrev pub ComesOut : (whole : Fault) → (sink after : Option (List ℕ)) → (text : List ℕ) → Fault → Type 0
ComesOut whole sink after text SinkFault = StopsShort sink after text
ComesOut whole sink after text Memory = IsCutOff sink after text
ComesOut whole sink after text fault = fault ≡ whole

-- the text of a state, or nothing where there is none
-- profile
abbrev pub text_of : Option Kernel → List Entry → Bool → List ℕ
text_of None trace flag = []
text_of (Some k) trace flag = printed k trace flag

-- ---- the numbers

-- the child that a fresh number names, in a state
-- profile
abbrev pub child_in : Option Node → List ℕ → Child
child_in None name = Missing
child_in (Some node) name = child_at name node

abbrev pub child_named : Kernel → Fresh → Child
child_named k f = child_in (map.get k.nodes f.dir) f.name

-- two fresh numbers are of different children
-- profile
abbrev pub AreOfTwoChildren : Fresh → Fresh → Type 0
AreOfTwoChildren a b = (a.dir ≡ b.dir) × (a.name ≡ b.name) → ⊥

-- what no entry has is of different children, each there without a number
-- profile
pub record IsLeftOver (left : Left) (k : Kernel) : Type 0 where
  pub unnumbered : All (λ f. IsUnnumbered (child_named k f)) (left_fresh left)
  pub apart : AllPairs AreOfTwoChildren (left_fresh left)

-- each task whose rises no entry has is one whose rises may be left beside this trace
-- profile
abbrev pub AreLeft : Mounts → Shape → Outcome → Kernel → Type 0
AreLeft mounts world r state =
    IfSome (started_kernel (begun mounts world r.opening))
    (λ start. All (λ rise. MayBeLeft mounts.entries start r.trace state rise.task) r.left.rises)

-- ---- when a run comes to its end

-- the words, the file, the folders and the images are accepted
-- profile
pub record IsAccepted (words : Option Command) (shelf : Option Shelf) (world : Option Shape)
    (opening : Opening) : Type 0 where
  pub command : Command
  pub words_are : words ≡ Some command
  pub files : Shelf
  pub files_are : shelf ≡ Some files
  pub mounts : Mounts
  pub file : NamesMountFile command files mounts
  pub tree : Shape
  pub tree_is : world ≡ Some tree
  pub folders : IsSome (granted mounts.mounts tree)
  pub starts : (k : Kernel) (task : ℕ) (errno : Errno) → begun mounts tree opening ≡ Refuses k task errno → ⊥

-- ---- what is left of the world

-- the world's tree after a run that left this state: each grant replaced by the tree of its root in that state, each
-- node's count of faults risen by its rises in opening, trace and what was left
-- profile
abbrev pub world_after : Mounts → Opening → Left → Kernel → Shape → Shape
world_after mounts opening left state world = settled mounts.mounts opening.roots (tree_now state left) world

-- the world is told, and outside the grants it is as it was
-- profile
abbrev pub KeepsOutside : Mounts → Shape → Option Shape → Type 0
KeepsOutside mounts world after =
    (w : Shape) × (after ≡ Some w) × (outside mounts.mounts w ≡ outside mounts.mounts world)

-- no entry was made, and the world is as it was; or it has each grant as the state of the trace has it
-- profile
abbrev pub LeavesInside : Mounts → Shape → Outcome → (after : Option Shape) → Type 0
LeavesInside mounts world r after =
    ((r.trace ≡ []) × (after ≡ Some world))
    ⊎ ((k : Kernel) × (state_after mounts world r.opening r.trace ≡ Some k)
    × (after ≡ Some (world_after mounts r.opening r.left k world)))
