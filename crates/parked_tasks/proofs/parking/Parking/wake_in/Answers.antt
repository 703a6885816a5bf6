-- Those of a memory, and those of the shared areas.
use Rattle.std.proofs.Common.{◌∙◌, ◌||◌, ◌&&◌, ap}
use Rattle.std.specs.Prelude.{Some}
use Rattle.parked_tasks.specs.Parking.{AreWoken}
use Rattle.parked_tasks.specs.Touched.{is_used}
use Rattle.parked_tasks.specs.Used.{same_made, uses_areas}
use Rattle.parked_tasks.specs.declared.used.Used.TheVariants.{Memory}
use Rattle.parked_tasks.proofs.Results.{on_ok}
use Rattle.parked_tasks.proofs.TouchedThings.{areas_used}
use Rattle.parked_tasks.proofs.Woken.{woken_both, woken_by}
use Rattle.parked_tasks.proofs.parking.Parking.wake_in.Goals as goal

pub returns : goal.returns
returns c =
    let p = c.args.self.now in
    let r = c.wake_users.new.self in
    let q = c.wake_users-2.new.self in
    let memory = c.args.memory in
    let used = c.areas_if.result in
    on_ok (λ u. AreWoken (is_used used) r q)
    (λ u. AreWoken (λ spot. same_made spot.memory memory || (uses_areas spot && c.args.areas)) p q)
    c.wake_users-2.result
    (λ u second.
    woken_by p.parked.tasks q.parked.tasks p.awake q.awake
    (λ spot. is_used (Some (Memory memory)) spot || is_used used spot)
    (λ spot. same_made spot.memory memory || (uses_areas spot && c.args.areas))
    (λ spot has.
    ap (λ b. same_made spot.memory memory || b) (areas_used c.args.areas used c.areas_if.ensures spot) ∙ has)
    (woken_both p.parked.tasks q.parked.tasks p.awake q.awake (is_used (Some (Memory memory))) (is_used used)
    r.parked.tasks r.awake c.in_ok-wake_users.ensures second)) c.wake_users-2.ensures
