-- A buffer that is cut asks for no area.
use Rattle.std.proofs.Common.{◌≡◌, [], subst}
use Rattle.kernel_model.specs.entries.Areas.{access_row}
use Rattle.kernel_model.specs.entries.Parts.{uses}
use Rattle.call_fs.proofs.waiting.awaited_by.Goals as goal

pub returns-clause-areas : goal.returns-clause-areas
returns-clause-areas c quiet s =
    let a = c.args in
    subst (λ n. uses s (access_row a.right a.space.now a.buffer n) ≡ []) c.min-most.ensures
    (c.asks_for_area.ensures quiet s)
