-- Where nothing is told, none is woken.
use Rattle.std.proofs.Common.{ap}
use Rattle.parked_tasks.specs.Touched.{is_used}
use Rattle.parked_tasks.proofs.Woken.{woken_none}
use Rattle.parked_tasks.proofs.parking.Parking.wake_users.Goals as goal

pub returns-in-None : goal.returns-in-None
returns-in-None c =
    woken_none (is_used c.args.used) c.args.self.now.parked.tasks c.args.self.now.awake
    (λ spot. ap (λ u. is_used u spot) c.in-None.is)
