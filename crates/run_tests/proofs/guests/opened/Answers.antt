-- Each task that is opened is one more, and 64 may be opened.
use Rattle.std.proofs.Common.{◌+◌, sym, subst, arith}
use Rattle.task_table.specs.Table.{TaskTable}
use Rattle.kernel_model.specs.opening.Opening.{made_by}
use Rattle.kernel_model.proofs.OpenedTasks.{AreOpened, opened_none, opened_more, may_open}
use Rattle.run_tests.proofs.guests.opened.Goals as goal

pub loop-index-init : goal.loop-index-init
loop-index-init c = subst (λ (list : TaskTable). AreOpened 0 list) (sym c.new-processes.ensures.none) opened_none

pub with_guest-requires-clause-room : goal.with_guest-requires-clause-room
with_guest-requires-clause-room c =
    may_open c.loop-index.index c.loop-index.processes.cells.tasks (omega arith) c.loop-index.invariant

pub loop-index-preserved : goal.loop-index-preserved
loop-index-preserved c =
    let next = made_by (c.loop-index.processes.cells.tasks.last + 1) in
    subst (λ (list : TaskTable). AreOpened (c.loop-index.index + 1) list) (sym c.in_ok-processes.ensures.tasks)
    (opened_more c.loop-index.index c.loop-index.processes.cells.tasks next next 1 (omega arith) c.loop-index.invariant)
