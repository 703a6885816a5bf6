-- Histories: lists of entries each of whose steps is defined.
use Rattle.std.specs.Prelude.{ℕ, ◌==◌, List, [], ◌∷◌, Bool, true, false, ◌&&◌, ◌||◌, not, Option, Some, None}
use Rattle.std.specs.Prelude.{option_and_then}
use Rattle.task_table.specs.Table.{live_numbers}
use Rattle.quantum.specs.declared.run.TheConstants.{QUANTUM}
use Rattle.kernel_model.specs.declared.caller.Caller.{Caller}
use Rattle.kernel_model.specs.declared.entry.Entry.{Entry}
use Rattle.kernel_model.specs.declared.entry.Entry.TheVariants.{Run, Call, Sleep, End}
use Rattle.kernel_model.specs.declared.kernel.Kernel.{Kernel}
use Rattle.kernel_model.specs.machine.Instructions.{goes_on, touches_area}
use Rattle.kernel_model.specs.calls.Callers.{caller_of}
use Rattle.kernel_model.specs.entries.Given.{has_any}
use Rattle.kernel_model.specs.entries.Parts.{parts, outcome_in}
use Rattle.kernel_model.specs.entries.Steps.{next_in, step}

-- the state after a list of entries, where each of their steps is defined
-- profile
abbrev pub replay : Kernel → List Entry → Option Kernel
replay k [] = Some k
replay k (entry ∷ entries) = option_and_then (λ (next : Kernel). replay next entries) (step k entry)

-- the next instruction of a live task neither traps nor calls, and touches no shared area
-- RISC-V Unprivileged ISA 20191213, 1.6, Exceptions, Traps, and Interrupts
abbrev pub goes_next : Option Caller → Bool
goes_next None = false
goes_next (Some c) = goes_on (next_in c)

abbrev pub has_next : Kernel → (task : ℕ) → Bool
has_next k task = goes_next (outcome_in (parts k) (caller_of task))

-- it touches one
-- mmap(2), MAP_SHARED
abbrev pub touches_next : Option Caller → Bool
touches_next None = false
touches_next (Some c) = touches_area (next_in c)

abbrev pub has_touching : Kernel → (task : ℕ) → Bool
has_touching k task = touches_next (outcome_in (parts k) (caller_of task))

-- a Run is whole between two states: it has as many instructions as it may have, or the next one calls, traps or
-- touches a shared area, or it is one that touches a shared area
-- profile
abbrev pub is_whole : Entry → (before after : Kernel) → Bool
is_whole (Run task n) before after = (n == QUANTUM) || not (has_next after task) || has_touching before task
is_whole (Call task call args given reply) before after = true
is_whole (Sleep task) before after = true
is_whole (End task signal) before after = true

-- each Run of a history is whole
-- profile
abbrev pub whole_then : Entry → (before : Kernel) → Option Kernel → (Kernel → Bool) → Bool
whole_then entry before None rest = false
whole_then entry before (Some after) rest = is_whole entry before after && rest after

abbrev pub each_whole : Kernel → List Entry → Bool
each_whole k [] = true
each_whole k (entry ∷ entries) = whole_then entry k (step k entry) (λ after. each_whole after entries)

-- some task lives
-- profile
abbrev pub any_live : Kernel → Bool
any_live k = has_any (live_numbers k.tasks.tasks)
