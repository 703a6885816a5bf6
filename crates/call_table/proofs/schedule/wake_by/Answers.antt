-- Those that an entry wakes by what it told.
use Rattle.std.proofs.Common.{◌||◌, ◌&&◌, ap, sym, ◌∙◌}
use Rattle.parked_tasks.specs.Parking.{AreWoken}
use Rattle.parked_tasks.specs.Touched.{is_touched, is_touched_by}
use Rattle.parked_tasks.specs.Used.{same_made, uses_areas}
use Rattle.parked_tasks.proofs.Results.{on_ok}
use Rattle.parked_tasks.proofs.Woken.{woken_both, woken_by}
use Rattle.call_table.specs.Moves.{is_woken_by}
use Rattle.call_table.proofs.schedule.wake_by.Goals as goal

pub returns-in-Some : goal.returns-in-Some
returns-in-Some c =
    let p = c.args.parking.now in
    let r = c.wake_in.new.self in
    let q = c.wake_touched.new.self in
    let made = c.args.made.now in
    let memory = c.args.memory in
    let touched = c.in-Some.touched in
    on_ok (λ u. AreWoken (is_touched_by touched) r q) (λ u. AreWoken (is_woken_by made memory) p q)
    c.wake_touched.result
    (λ u second.
    woken_by p.parked.tasks q.parked.tasks p.awake q.awake
    (λ spot. (same_made spot.memory memory || (uses_areas spot && made.areas)) || is_touched_by touched spot)
    (is_woken_by made memory)
    (λ spot passes.
    ap (λ t. (same_made spot.memory memory || (uses_areas spot && made.areas)) || is_touched t spot)
    (sym c.in-Some.is)
    ∙ ap (λ b. b || ((same_made spot.memory memory || (uses_areas spot && made.areas)) || is_touched made.touched spot))
    (sym c.if-made.false) ∙ passes)
    (woken_both p.parked.tasks q.parked.tasks p.awake q.awake
    (λ spot. same_made spot.memory memory || (uses_areas spot && made.areas)) (is_touched_by touched) r.parked.tasks
    r.awake c.in_ok-wake_in.ensures second)) c.wake_touched.ensures
