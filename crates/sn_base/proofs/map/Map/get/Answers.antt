use Rattle.std.proofs.Common.{ap, sym, ◌∙◌}
use Rattle.std.specs.FinMap as map
use Rattle.sn_base.proofs.Maps.{get_entry}
use Rattle.sn_base.proofs.map.Map.get.Goals as goal

pub returns : goal.returns
returns g c = c.get.ensures.value ∙ sym (get_entry c.self.inside.entries.entries c.args.key)
    ∙ ap (λ m. map.get m c.args.key) c.self.view_is
