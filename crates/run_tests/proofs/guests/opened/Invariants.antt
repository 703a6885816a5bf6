-- So many tasks are open.
use Rattle.kernel_model.proofs.OpenedTasks.{AreOpened}
use Rattle.run_tests.proofs.guests.opened.Given as goal

abbrev pub invariant-loop-index : goal.invariant-loop-index
invariant-loop-index l = AreOpened l.index l.processes.cells.tasks
