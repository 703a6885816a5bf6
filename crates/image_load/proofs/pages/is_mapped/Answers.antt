-- A page is found where the definition has it.
use Rattle.std.proofs.Common.{◌≡◌, ◌∙◌, Some, None, option_map, refl, ap}
use Rattle.std.specs.Option.{is_some, option_copied}
use Rattle.mm_areas.specs.Pages.{mapped_by}
use Rattle.image_load.proofs.pages.is_mapped.Goals as goal

pub returns : goal.returns
returns c =
    c.is_some.ensures
    ∙ (elim c.page.result as (λ o. is_some o ≡ is_some (option_map mapped_by (option_copied o))) [
      | None
          ↦ refl
      | Some p ↦ refl
    ])
    ∙ ap is_some c.page.ensures
