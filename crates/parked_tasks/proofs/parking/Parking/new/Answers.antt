-- None is parked.
use Rattle.parked_tasks.proofs.UserLists.{numbers_of_none}
use Rattle.parked_tasks.proofs.Woken.{none_parked}
use Rattle.parked_tasks.proofs.parking.Parking.new.Goals as goal

pub invariant_of-result : goal.invariant_of-result
invariant_of-result c = record { numbers = numbers_of_none c.new.result c.new.ensures }

pub returns-clause-parked : goal.returns-clause-parked
returns-clause-parked c = none_parked c.new-2.result.tasks c.new-2.ensures
