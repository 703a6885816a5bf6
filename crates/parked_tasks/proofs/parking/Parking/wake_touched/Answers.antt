-- Those of a table, those of descriptions, and those of pipes.
use Rattle.std.proofs.Common.{◌||◌}
use Rattle.parked_tasks.specs.Parking.{AreWoken}
use Rattle.parked_tasks.specs.Touched.{are_named, has_table_named, is_touched_by}
use Rattle.parked_tasks.specs.Used.{has_description, has_pipe}
use Rattle.parked_tasks.proofs.Results.{on_ok}
use Rattle.parked_tasks.proofs.Woken.{woken_both}
use Rattle.parked_tasks.proofs.parking.Parking.wake_touched.Goals as goal

pub returns : goal.returns
returns c =
    let touched = c.args.touched.now in
    let p = c.args.self.now in
    let r = c.wake_table.new.self in
    let s = c.wake_descriptions.new.self in
    let q = c.wake_pipes.new.self in
    on_ok (λ u. AreWoken (has_pipe (are_named touched.pipes)) s q) (λ u. AreWoken (is_touched_by touched) p q)
    c.wake_pipes.result
    (λ u third.
    woken_both p.parked.tasks q.parked.tasks p.awake q.awake (has_table_named touched.table)
    (λ spot. has_description (are_named touched.descriptions) spot || has_pipe (are_named touched.pipes) spot)
    r.parked.tasks r.awake c.in_ok-wake_table.ensures
    (woken_both r.parked.tasks q.parked.tasks r.awake q.awake (has_description (are_named touched.descriptions))
    (has_pipe (are_named touched.pipes)) s.parked.tasks s.awake c.in_ok-wake_descriptions.ensures third))
    c.wake_pipes.ensures
