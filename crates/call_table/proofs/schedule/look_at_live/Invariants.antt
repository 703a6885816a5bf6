-- Of the numbers so far those are looked at whose task lives and is not on the futex list, and no others.
use Rattle.std.proofs.Common.{◌≡◌, ℕ, ◌<◌, true}
use Rattle.std.specs.FinMap as map
use Rattle.task_table.specs.Kept.{IsKept}
use Rattle.task_table.specs.Table.{is_live}
use Rattle.parked_tasks.specs.Parking.{AreParkedAlike}
use Rattle.call_table.specs.Schedules.{is_off}
use Rattle.call_table.proofs.schedule.look_at_live.Given as goal

abbrev pub invariant-loop-task : goal.invariant-loop-task
invariant-loop-task l = record {
  parked : AreParkedAlike l.fn.parking l.parking;
  off : (t : ℕ) → map.contains_key l.parking.awake t ≡ true → is_off l.fn.cells.sleepers t ≡ true;
  live : (t : ℕ) → t < l.task → is_live l.fn.cells.tasks.tasks t ≡ true → is_off l.fn.cells.sleepers t ≡ true
      → map.contains_key l.parking.awake t ≡ true;
  kept : 0 < l.task → IsKept l.fn.cells.tasks;
}
