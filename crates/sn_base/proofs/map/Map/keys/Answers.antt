use Rattle.std.proofs.Common.{ap, sym, ◌∙◌}
use Rattle.std.specs.FinMap as map
use Rattle.std.specs.Map.{keys_of}
use Rattle.sn_base.proofs.Maps.{entries-from_entries}
use Rattle.sn_base.proofs.map.Map.keys.Goals as goal

pub returns : goal.returns
returns g c =
    c.from_vec.ensures ∙ c.in_ok-keys.ensures.items
    ∙ ap keys_of (sym (entries-from_entries c.self.inside.entries.entries c.keys_of.ensures.ordered))
    ∙ ap map.keys c.self.view_is
