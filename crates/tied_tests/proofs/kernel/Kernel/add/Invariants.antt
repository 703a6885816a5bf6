use Rattle.std.proofs.Common.{◌≡◌}
use Rattle.tied_cells.specs.Rounds.{Learns}
use Rattle.tied_tests.specs.Tallies.{tally}
use Rattle.tied_tests.proofs.kernel.Kernel.add.Given as goal

abbrev pub invariant-loop : goal.invariant-loop
invariant-loop g l = (l.seat.task ≡ l.fn.seat.task) × Learns tally l.fn.seat.task l.fn.seat.front l.seat.front
