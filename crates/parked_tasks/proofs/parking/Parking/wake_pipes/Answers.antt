-- Those of the first, and those of the second.
use Rattle.std.proofs.Common.{◌∙◌, ◌||◌}
use Rattle.parked_tasks.specs.Parking.{AreWoken}
use Rattle.parked_tasks.specs.Touched.{are_named, is_used}
use Rattle.parked_tasks.specs.Used.{has_pipe}
use Rattle.parked_tasks.proofs.Results.{on_ok}
use Rattle.parked_tasks.proofs.TouchedThings.{pipes_used}
use Rattle.parked_tasks.proofs.Woken.{woken_both, woken_by}
use Rattle.parked_tasks.proofs.parking.Parking.wake_pipes.Goals as goal

pub returns : goal.returns
returns c =
    let p = c.args.self.now in
    let r = c.wake_users.new.self in
    let q = c.wake_users-2.new.self in
    let one = c.pipe.result in
    let two = c.pipe-2.result in
    let names = c.args.names in
    on_ok (λ u. AreWoken (is_used two) r q) (λ u. AreWoken (has_pipe (are_named names)) p q)
    c.wake_users-2.result
    (λ u second.
    woken_by p.parked.tasks q.parked.tasks p.awake q.awake (λ spot. is_used one spot || is_used two spot)
    (has_pipe (are_named names))
    (λ spot has. pipes_used names one two c.pipe.ensures c.pipe-2.ensures spot ∙ has)
    (woken_both p.parked.tasks q.parked.tasks p.awake q.awake (is_used one) (is_used two) r.parked.tasks r.awake
    c.in_ok-wake_users.ensures second)) c.wake_users-2.ensures
