-- The trace so far is a whole history in turn, and leaves the processes.
use Rattle.std.proofs.Common.{◌≡◌, true, length, []}
use Rattle.std.specs.List.{flat_map}
use Rattle.std.specs.Prelude.{Some}
use Rattle.kernel_model.specs.entries.History.{replay, each_whole}
use Rattle.kernel_model.specs.files.Numbers.{numbers_in}
use Rattle.proc_cells.specs.Beside.{Beside}
use Rattle.proc_cells.specs.Cells.{kernel_of as kernel_of_cells}
use Rattle.call_table.specs.Schedules.{AreParked}
use Rattle.call_table.specs.Turns.{AreInTurn, last_turn}
use Rattle.call_table.proofs.schedule.Schedule.take_turns.Given as goal

-- the trace so far is a history that leaves the processes, its entries are in turn, and each of its Runs is whole
abbrev pub invariant-loop-place : goal.invariant-loop-place
invariant-loop-place l = record {
  count : length l.trace ≡ l.place;
  state : (beside : Beside) → beside.seed ≡ l.fn.seed → replay (kernel_of_cells l.fn.self.cells beside 0) l.trace
      ≡ Some (kernel_of_cells l.self.cells beside (length l.trace));
  turns : (beside : Beside) → beside.seed ≡ l.fn.seed → AreInTurn 0 (kernel_of_cells l.fn.self.cells beside 0) l.trace;
  last : l.last ≡ last_turn 0 l.trace;
  drawn : flat_map numbers_in l.trace ≡ [];
  whole : (beside : Beside) → beside.seed ≡ l.fn.seed → each_whole (kernel_of_cells l.fn.self.cells beside 0) l.trace
      ≡ true;
  parked : AreParked l.self.cells l.self.parking;
}
