-- Whose turn it is, and how a run of turns ended.
use Rattle.std.specs.Prelude.{◌≡◌, ℕ, nat_lt, List, [], ◌∷◌, find, Option, Some, None, ⊤, false}
use Rattle.kernel_model.specs.declared.entry.Entry.{Entry}
use Rattle.kernel_model.specs.declared.kernel.Kernel.{Kernel}
use Rattle.kernel_model.specs.entries.Given.{has_any}
use Rattle.kernel_model.specs.entries.Ready.{ready_numbers}
use Rattle.kernel_model.specs.entries.Steps.{step, task_of}
use Rattle.call_table.specs.declared.processes.Processes.{Processes}
use Rattle.proc_cells.specs.declared.cells.Cells.{Cells}
use Rattle.proc_cells.specs.Beside.{Beside}
use Rattle.proc_cells.specs.Cells.{kernel_of as kernel_of_cells}

-- the task whose turn is next, of those whose next step is ready: the least above that of the last turn, or else the
-- least
-- profile
abbrev pub or_first : Option ℕ → List ℕ → Option ℕ
or_first (Some task) ready = Some task
or_first None ready = find (nat_lt 0) ready

abbrev pub next_task_of : (last : ℕ) → (ready : List ℕ) → Option ℕ
next_task_of last ready = or_first (find (nat_lt last) ready) ready

-- each entry of a trace is of the task whose turn it is, by the tasks whose step is ready before it and the task of the
-- last turn
-- profile
abbrev pub turns_then : Option Kernel → (Kernel → Type 0) → Type 0
turns_then None rest = ⊥
turns_then (Some after) rest = rest after

abbrev pub AreInTurn : (last : ℕ) → Kernel → List Entry → Type 0
AreInTurn last k [] = ⊤
AreInTurn last k (entry ∷ entries) =
    (next_task_of last (ready_numbers k) ≡ Some (task_of entry))
    × turns_then (step k entry) (λ after. AreInTurn (task_of entry) after entries)

-- no task's next step is ready, whatever stands beside the cells, or the processes
-- profile
abbrev pub AreStillIn : Cells → Type 0
AreStillIn cells = (beside : Beside) (n : ℕ) → has_any (ready_numbers (kernel_of_cells cells beside n)) ≡ false

abbrev pub AreStill : Processes → Type 0
AreStill p = AreStillIn p.cells

-- the task of the last turn of a trace, or that one where it has none
-- profile
abbrev pub last_turn : ℕ → List Entry → ℕ
last_turn last [] = last
last_turn last (entry ∷ entries) = last_turn (task_of entry) entries

-- a state is left, with this beside it
-- profile
abbrev pub Leaves : Beside → Option Kernel → Type 0
Leaves beside None = ⊥
Leaves beside (Some state) =
    (state.nodes ≡ beside.nodes) × (state.failed ≡ beside.failed)
    × (state.mounts ≡ beside.mounts) × (state.seed ≡ beside.seed)
