use Rattle.std.proofs.Common.{ap, sym, ◌∙◌}
use Rattle.std.specs.FinMap as map
use Rattle.sn_base.proofs.Maps.{get_entry, one_removed}
use Rattle.sn_base.proofs.map.Map.remove.Goals as goal

pub returns-clause-value : goal.returns-clause-value
returns-clause-value g c = c.remove.ensures.value ∙ sym (get_entry c.self.inside.entries.entries c.args.key)
    ∙ ap (λ m. map.get m c.args.key) c.self.view_is

pub returns-clause-after : goal.returns-clause-after
returns-clause-after g c =
    one_removed c.self.inside.entries.entries c.remove.new.self.entries c.args.key c.remove.ensures.updates.0
    ∙ ap (λ m. map.remove m c.args.key) c.self.view_is
