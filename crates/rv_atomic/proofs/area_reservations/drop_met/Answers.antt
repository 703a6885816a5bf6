-- A store ends the other tasks' reservations in an area of the granules at its two ends, which are all that it meets.
use Rattle.std.proofs.Common.{rules, ap, ◌∙◌, ◌+◌, ◌-◌, ◌%◌, ◌^◌, ◌==◌, ◌&&◌, ◌||◌, not}
use Rattle.std.proofs.lemmas.Fn.{filter_same}
use Rattle.std.proofs.lemmas.List.Elements.{filter_agree}
use Rattle.rv_atomic.specs.Reservations.{granule}
use Rattle.rv_atomic.proofs.Granules.{missed_at_ends}
use Rattle.rv_atomic.proofs.area_reservations.drop_met.Goals as goal

pub returns : goal.returns
returns c =
    filter_same _ (λ r. (r.task == c.args.task)
    || (not (r.granule == granule c.args.at)
    && not (r.granule == granule ((c.args.at + (c.args.width - 1)) % 2 ^ 64)))) _ (λ r b f h. search rules)
    _ _ c.retain.ensures.filtered
    ∙ filter_agree _ _ (λ r. ap (λ missed. (r.task == c.args.task) || missed)
    (missed_at_ends (r.granule) c.args.at c.args.width c.ranges.at.fits c.requires)) c.args.items.now.items
