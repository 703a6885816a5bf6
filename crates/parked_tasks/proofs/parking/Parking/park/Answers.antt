-- A task is parked so, and each other as it was.
use Rattle.std.proofs.Common.{ap, ◌∙◌}
use Rattle.std.specs.FinMap as map
use Rattle.sn_base.proofs.Maps.{get-insert_same, get-insert_other}
use Rattle.parked_tasks.proofs.parking.Parking.park.Goals as goal

pub returns-clause-parked : goal.returns-clause-parked
returns-clause-parked c =
    let before = c.args.self.now.parked.tasks in
    record {
      itself =
          c.rest.ensures.parked c.args.task ∙ ap (λ m. map.get m c.args.task) c.in_ok-park.ensures.ok
          ∙ get-insert_same before c.args.task c.args.spot;
      others = λ other apart.
          c.rest.ensures.parked other ∙ ap (λ m. map.get m other) c.in_ok-park.ensures.ok
          ∙ get-insert_other before c.args.task other c.args.spot apart;
    }
