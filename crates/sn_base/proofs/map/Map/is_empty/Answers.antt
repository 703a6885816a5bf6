use Rattle.std.proofs.Common.{sym, ◌∙◌}
use Rattle.sn_base.proofs.Maps.{empty_entries}
use Rattle.sn_base.proofs.map.Map.is_empty.Goals as goal

pub returns : goal.returns
returns g c =
    let none = empty_entries c.self.inside.entries.entries in
    (λ h. sym c.self.view_is ∙ none.0 (c.is_empty.ensures.0 h), λ h. c.is_empty.ensures.1 (none.1 (c.self.view_is ∙ h)))
