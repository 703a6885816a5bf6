-- A task that does not live is looked at no more.
use Rattle.std.proofs.Common.{sym, ◌∙◌}
use Rattle.call_table.proofs.ParkingSteps.{parked_rest}
use Rattle.call_table.proofs.schedule.Schedule.enter.Goals as goal

pub returns-then-not-is_live-clause-parked : goal.returns-then-not-is_live-clause-parked
returns-then-not-is_live-clause-parked c =
    parked_rest c.args.self.now.cells c.args.self.now.parking c.rest.new.self c.requires.parked c.args.candidate.task
    (sym c.is_live.ensures.lives ∙ c.if-not-is_live.true) c.rest.ensures.awake c.rest.ensures.parked
