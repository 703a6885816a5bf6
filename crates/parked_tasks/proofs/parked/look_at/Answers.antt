-- One task after another is looked at.
use Rattle.parked_tasks.proofs.Woken.{one_more_looked_at}
use Rattle.parked_tasks.proofs.parked.look_at.Goals as goal

pub loop-task-preserved : goal.loop-task-preserved
loop-task-preserved c =
    one_more_looked_at c.args.parked.now c.loop-task.parked c.args.awake.now c.loop-task.awake c.args.tasks.now
    c.loop-task.task-index 0 c.loop-task-test.true c.loop-task.invariant c.look_at_one.new.parked
    c.look_at_one.new.awake c.in_ok-look_at_one.ensures.parked c.in_ok-look_at_one.ensures.looked_at
