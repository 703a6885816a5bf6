-- The state part by part, and decision trees over parts: what a step reads is what its tree looks at.
use Rattle.std.specs.Prelude.{◌≡◌, ℕ, List, [], ◌∷◌, Option, Some, None, ◌⊎◌}
use Rattle.std.specs.Ordering.{nat_cmp}
use Rattle.std.specs.FinMap as map
use Rattle.fd_table.specs.Tables.{Table}
use Rattle.kernel_model.specs.Names.{NamedMap, get_named, with_named, without_named}
use Rattle.rv_table.specs.declared.error.Area.{Area}
use Rattle.rv_table.specs.declared.registers.Regs.{Regs}
use Rattle.sn_base.specs.declared.made.Made.{Made}
use Rattle.task_table.specs.Table.{TaskTable}
use Rattle.mm_space.specs.Handed.{AreaState}
use Rattle.futex_core.specs.Waiters.{FutexList}
use Rattle.mm_space.specs.Spaces.{AddressSpace}
use Rattle.pipe_core.specs.Pipes.{PipeState}
use Rattle.kernel_model.specs.declared.kernel.Kernel.{Kernel}
use Rattle.kernel_model.specs.declared.kernel.Node.{Node}
use Rattle.kernel_model.specs.declared.kernel.Part.{Part}
use Rattle.kernel_model.specs.declared.kernel.Part.TheVariants.{OfTasks, OfTask, OfSpace, OfArea, OfTable}
use Rattle.kernel_model.specs.declared.kernel.Part.TheVariants.{OfDescription}
use Rattle.kernel_model.specs.declared.kernel.Part.TheVariants.{OfPipe, OfNode, OfSleepers, OfConsole, OfFaults}
use Rattle.kernel_model.specs.declared.open_files.OpenFile.{OpenFile}

-- what a part holds: the task list, a task's registers, an address space, a shared area, a descriptor table, an open
-- file description, a pipe, a node, the futex list, the console's bytes, rises of counts
-- profile
abbrev pub Holds : Part → Type 0
Holds OfTasks = TaskTable
Holds (OfTask task) = Option Regs
Holds (OfSpace name) = Option AddressSpace
Holds (OfArea name) = Option AreaState
Holds (OfTable name) = Option Table
Holds (OfDescription name) = Option OpenFile
Holds (OfPipe name) = Option PipeState
Holds (OfNode ino) = Option Node
Holds OfSleepers = FutexList
Holds OfConsole = List ℕ
Holds OfFaults = map.FinMap nat_cmp ℕ

-- a state, seen part by part
-- profile
abbrev pub Parts : Type 0
Parts = (part : Part) → Holds part

-- the parts of a kernel
-- profile
abbrev pub parts : Kernel → Parts
parts k OfTasks = k.tasks
parts k (OfTask task) = map.get k.registers task
parts k (OfSpace name) = get_named k.spaces name.place name.index
parts k (OfArea name) = get_named k.areas name.place name.index
parts k (OfTable name) = get_named k.files.tables name.place name.index
parts k (OfDescription name) = get_named k.files.descriptions name.place name.index
parts k (OfPipe name) = get_named k.files.pipes name.place name.index
parts k (OfNode ino) = map.get k.nodes ino
parts k OfSleepers = k.sleepers
parts k OfConsole = k.console
parts k OfFaults = k.failed

-- a decision tree: it is done, or it looks at a part and goes on by what that holds
-- profile
pub data Prog (A : Type 0) : Type 0 where
  done : A → Prog A
  look : (part : Part) → (Holds part → Prog A) → Prog A

-- what the tree comes to in a state
-- profile
abbrev pub outcome_in : {A : Type 0} → Parts → Prog A → A
outcome_in state (done a) = a
outcome_in state (look part then) = outcome_in state (then (state part))

-- the parts that the tree looks at in a state, in order
-- profile
abbrev pub uses : {A : Type 0} → Parts → Prog A → List Part
uses state (done a) = []
uses state (look part then) = part ∷ uses state (then (state part))

-- one tree, and then the one that its outcome names
-- profile
infixl 10 ◌>>=◌
abbrev pub ◌>>=◌ : {A B : Type 0} → Prog A → (A → Prog B) → Prog B
(done a) >>= next = next a
(look part then) >>= next = look part (λ content. then content >>= next)

-- a part is in a list of parts
-- profile
abbrev pub IsIn : Part → List Part → Type 0
IsIn part [] = ⊥
IsIn part (p ∷ ps) = (part ≡ p) ⊎ IsIn part ps

-- two states hold the same in each of these parts
-- profile
abbrev pub AgreeOn : List Part → Parts → Parts → Type 0
AgreeOn ps a b = (part : Part) → IsIn part ps → a part ≡ b part

-- a part with what it holds after a step
-- profile
abbrev pub Change : Type 0
Change = (part : Part) × Holds part

-- a map with another value under a key, or without the key
-- profile
abbrev pub set_at : {V : Type 0} → ℕ → Option V → map.FinMap nat_cmp V → map.FinMap nat_cmp V
set_at key (Some value) m = map.insert m key value
set_at key None m = map.remove m key

abbrev pub set_named : {V : Type 0} → Made → Option V → NamedMap V → NamedMap V
set_named name (Some value) m = with_named m name.place name.index value
set_named name None m = without_named m name.place name.index

-- the name of an area as those of other made things
-- profile
abbrev pub area_made : Area → Made
area_made name = record { place = name.place; index = name.index }

-- a kernel with another content of a part
-- profile
abbrev pub put : (part : Part) → Holds part → Kernel → Kernel
put OfTasks content k = record k { tasks = content }
put (OfTask task) content k = record k { registers = set_at task content k.registers }
put (OfSpace name) content k = record k { spaces = set_named name content k.spaces }
put (OfArea name) content k = record k { areas = set_named (area_made name) content k.areas }
put (OfTable name) content k =
    record k { files = record k.files { tables = set_named name content k.files.tables } }
put (OfDescription name) content k =
    record k { files = record k.files { descriptions = set_named name content k.files.descriptions } }
put (OfPipe name) content k =
    record k { files = record k.files { pipes = set_named name content k.files.pipes } }
put (OfNode ino) content k = record k { nodes = set_at ino content k.nodes }
put OfSleepers content k = record k { sleepers = content }
put OfConsole content k = record k { console = content }
put OfFaults content k = record k { failed = content }

-- a kernel after changes, in their order
-- profile
abbrev pub changed : List Change → Kernel → Kernel
changed [] k = k
changed (change ∷ changes) k = changed changes (put change.0 change.1 k)

-- the parts of changes
-- profile
abbrev pub parts_changed : List Change → List Part
parts_changed [] = []
parts_changed (change ∷ changes) = change.0 ∷ parts_changed changes
