-- A run of bytes ends the other tasks' reservations in an area of the granules that it lies over.
use Rattle.std.proofs.Common.{rules, ◌==◌, ◌||◌, not}
use Rattle.std.proofs.lemmas.Fn.{filter_same}
use Rattle.rv_atomic.specs.Reservations.{lies_over}
use Rattle.rv_atomic.proofs.area_reservations.drop_run.Goals as goal

pub returns : goal.returns
returns c =
    filter_same _ (λ r. (r.task == c.args.task) || not (lies_over (r.granule) c.args.at c.args.count)) _
    (λ r b f h. search rules) _ _ c.retain.ensures.filtered
