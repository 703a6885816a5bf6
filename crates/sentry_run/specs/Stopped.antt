-- How processes that stopped have ended.
use Rattle.std.specs.Prelude.{◌≡◌, ◌≢◌, ℕ, true, false, Option, Some, None}
use Rattle.task_table.specs.Table.{live_numbers}
use Rattle.kernel_model.specs.entries.Given.{has_any}
use Rattle.call_table.specs.declared.processes.Processes.{Processes}
use Rattle.proc_cells.specs.Beside.{nothing_beside}
use Rattle.call_table.specs.Processes.{kernel_of_processes}
use Rattle.sentry_run.specs.declared.play.End.{End}
use Rattle.sentry_run.specs.declared.play.End.TheVariants as ends

-- processes end as their tasks stand after so many entries of those allowed
-- profile
abbrev pub EndsAs : Processes → (made entries : ℕ) → End → Type 0
EndsAs p made entries (ends.Done kernel) =
    (has_any (live_numbers p.cells.tasks.tasks) ≡ false) × (kernel ≡ kernel_of_processes p nothing_beside made)
EndsAs p made entries (ends.Full kernel) =
    (has_any (live_numbers p.cells.tasks.tasks) ≡ true) × (made ≡ entries)
    × (kernel ≡ kernel_of_processes p nothing_beside made)
EndsAs p made entries (ends.Stuck kernel) =
    (has_any (live_numbers p.cells.tasks.tasks) ≡ true) × (made ≢ entries)
    × (kernel ≡ kernel_of_processes p nothing_beside made)
EndsAs p made entries _ = ⊥

-- a run ends as its processes do, or for want of memory
-- profile
abbrev pub FinishesAs : Option Processes → (made entries : ℕ) → End → Type 0
FinishesAs None made entries end = end ≡ ends.Memory
FinishesAs (Some p) made entries end = EndsAs p made entries end

-- an end after all grants
-- profile
abbrev pub IsInner : End → Type 0
IsInner ends.HostFault = ⊥
IsInner (ends.Grant mount) = ⊥
IsInner _ = Unit {0}
