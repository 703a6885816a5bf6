-- A range ends the reservations of the granules that it lies over, whoever's they are.
use Rattle.std.proofs.Common.{rules, not}
use Rattle.std.proofs.lemmas.Fn.{filter_same}
use Rattle.rv_atomic.specs.Reservations.{granule, lies_over}
use Rattle.rv_atomic.proofs.reservations.drop_over.Goals as goal

pub returns : goal.returns
returns c =
    filter_same _ (λ r. not (lies_over (granule r.address) c.args.at c.args.count)) _ (λ r b f h. search rules)
    _ _ c.retain.ensures.filtered
