-- Those of the table, where there is one.
use Rattle.std.proofs.Common.{◌∙◌}
use Rattle.parked_tasks.specs.Parking.{AreWoken}
use Rattle.parked_tasks.specs.Touched.{has_table_named, is_used}
use Rattle.parked_tasks.proofs.Results.{on_ok}
use Rattle.parked_tasks.proofs.TouchedThings.{table_used}
use Rattle.parked_tasks.proofs.Woken.{woken_by}
use Rattle.parked_tasks.proofs.parking.Parking.wake_table.Goals as goal

pub returns : goal.returns
returns c =
    let p = c.args.self.now in
    let q = c.wake_users.new.self in
    let used = c.table.result in
    on_ok (λ u. AreWoken (is_used used) p q) (λ u. AreWoken (has_table_named c.args.name) p q) c.wake_users.result
    (λ u did.
    woken_by p.parked.tasks q.parked.tasks p.awake q.awake (is_used used) (has_table_named c.args.name)
    (λ spot has. table_used c.args.name used c.table.ensures spot ∙ has) did) c.wake_users.ensures
