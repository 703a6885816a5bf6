-- Each live task is looked at that is not on the futex list, and none is parked.
use Rattle.std.proofs.Common.{◌≡◌, ℕ, ap, ◌∙◌}
use Rattle.std.specs.Prelude.{None, is_some, ◌||◌}
use Rattle.std.specs.FinMap as map
use Rattle.sn_base.proofs.Maps.{get_of_empty}
use Rattle.parked_tasks.specs.Parking.{parked_at}
use Rattle.call_table.proofs.Parkings.{awake_off, off_awake}
use Rattle.call_table.proofs.schedule.Schedule.begin.Goals as goal

pub look_at_live-requires : goal.look_at_live-requires
look_at_live-requires c = record {
  none = λ task. ap (λ m. map.contains_key m task) c.new-parking.ensures.awake ∙ ap is_some (get_of_empty task);
}

pub returns-clause-parked : goal.returns-clause-parked
returns-clause-parked c =
    let ok = c.in_ok-look_at_live.ensures in
    let none : (task : ℕ) → parked_at c.look_at_live.new.parking task ≡ None = λ task.
    ok.parked task ∙ c.new-parking.ensures.parked task in
    record {
      awake = λ task among. off_awake c.args.cells.sleepers task (ok.off task among);
      apart = λ task among. none task;
      parked = λ task spot is. absurd (cc (is, none task));
      covers = λ task live awake.
          ap (λ b. b || is_some (parked_at c.look_at_live.new.parking task))
          (ok.live task live (awake_off c.args.cells.sleepers task awake));
    }
