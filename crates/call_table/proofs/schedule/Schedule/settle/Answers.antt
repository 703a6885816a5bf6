-- After an entry the tasks that it concerns are looked at again.
use Rattle.std.proofs.Common.{◌≡◌, if◌then◌else◌, subst, sym, ◌∙◌}
use Rattle.std.specs.FinMap as map
use Rattle.std.specs.Prelude.{Result, Ok, Err, OnOk}
use Rattle.call_table.specs.Moves.{puts_to_sleep}
use Rattle.call_table.proofs.Settling.{settled_by}
use Rattle.call_table.proofs.schedule.Schedule.settle.Goals as goal

by_ok : {A E P Q : Type 0} (r : Result A E) → (P → Q) → OnOk r P → OnOk r Q
by_ok (Ok x) f p = f p
by_ok (Err e) f p = tt

pub returns-clause-parked : goal.returns-clause-parked
returns-clause-parked c =
    by_ok c.wake_by.result (λ woken task before same last moves but.
    settled_by task c.args.memory c.args.made.now before c.args.self.now.cells moves c.args.self.now.parking
    c.rest_asleep.new.parking c.look_at_child.new.parking c.wake_by.new.parking but c.args.last last woken
    (λ t. c.look_at_child.ensures.parked t ∙ c.rest_asleep.ensures.parked t)
    (subst (λ n. c.rest_asleep.new.parking.awake ≡ (if puts_to_sleep c.args.made.now.entry
    then map.remove c.args.self.now.parking.awake n else c.args.self.now.parking.awake))
    (c.task.ensures ∙ sym same) c.rest_asleep.ensures.awake)
    c.in_ok-look_at_child.ensures.awake) c.wake_by.ensures
