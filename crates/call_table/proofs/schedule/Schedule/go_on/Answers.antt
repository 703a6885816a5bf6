-- The task that was woken is looked at from then on.
use Rattle.std.proofs.Common.{sym}
use Rattle.call_table.proofs.ParkingSteps.{parked_woken}
use Rattle.call_table.proofs.schedule.Schedule.go_on.Goals as goal

pub returns-clause-parked : goal.returns-clause-parked
returns-clause-parked c =
    c.in_ok-settle.ensures.parked c.args.task c.args.self.now.cells (sym c.go_on_woken-made.ensures.task)
    c.last-last.ensures
    c.go_on_woken-made.ensures.moves
    (parked_woken c.args.self.now.cells c.args.self.now.parking c.wake.new.self c.requires.parked c.args.task
    c.requires.woken c.in_ok-wake.ensures.ok c.in_ok-wake.ensures.parked)
