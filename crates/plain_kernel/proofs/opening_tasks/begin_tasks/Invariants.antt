-- What is left to begin comes to what the whole does, and so many tasks were opened.
use Rattle.std.proofs.Common.{◌≡◌, ◌+◌, drop}
use Rattle.kernel_model.specs.opening.Opening.{tasks_begun}
use Rattle.kernel_model.proofs.OpenedTasks.{AreOpened}
use Rattle.plain_kernel.proofs.opening_tasks.begin_tasks.Given as goal

abbrev pub invariant-loop-index : goal.invariant-loop-index
invariant-loop-index l = record {
  begun :
      tasks_begun (l.index + 1) (drop l.index l.programs) (drop l.index l.opened) l.kernel
      ≡ tasks_begun 1 l.programs l.opened l.fn.kernel;
  tasks : AreOpened l.index l.kernel.tasks;
}
