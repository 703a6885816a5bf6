-- The page of a number stands in its region.
use Rattle.std.proofs.Common.{◌≡◌, ◌<◌, List, [], ◌∷◌, ℕ, zero, suc, ◌-◌, Some, length, map, get_or, refl, sym, ap, ◌∙◌}
use Rattle.std.proofs.Common.{arith, option_map}
use Rattle.std.specs.List.{slice_get}
use Rattle.std.proofs.lemmas.Option.{slice_get-get_or}
use Rattle.mm_areas.specs.declared.areas.Region.{Region}
use Rattle.mm_areas.specs.declared.page.Page.{Page}
use Rattle.mm_areas.specs.Pages.{mapped_by}
use Rattle.mm_areas.proofs.PageLaws.{within_bounds}
use Rattle.mm_areas.proofs.RegionLaws.{mapped_in}
use Rattle.mm_areas.proofs.IndexLaws.{get_in_region}
use Rattle.mm_areas.proofs.regions.page_in.Goals as goal

mapped_at : (pages : List Page) (k : ℕ) → option_map mapped_by (slice_get pages k) ≡ slice_get (map mapped_by pages) k
mapped_at [] k = refl
mapped_at (p ∷ pages) zero = refl
mapped_at (p ∷ pages) (suc k) = mapped_at pages k

pub returns : goal.returns
returns c =
    let rs = c.args.regions.now in
    let i = c.args.index in
    let r = c.index-regions-index.result in
    let at = get_or rs i r in
    let is : r ≡ at = c.index-regions-index.is in
    let page = c.index.result.now in
    let bounds = within_bounds at.first (length at.pages.items) c.args.page (c.requires.held r) in
    let count : length r.pages.items ≡ length at.pages.items = ap (λ (x : Region). length x.pages.items) is in
    let first : r.first ≡ at.first = ap (λ (x : Region). x.first) is in
    let within : c.args.page - r.first < length r.pages.items = omega (arith, bounds.0, bounds.1, count, first) in
    let found : Some page ≡ slice_get r.pages.items (c.args.page - r.first) =
    ap Some c.index.ensures ∙ sym (slice_get-get_or r.pages.items (c.args.page - r.first) page within) in
    sym (ap (option_map mapped_by) found
    ∙ mapped_at r.pages.items (c.args.page - r.first)
    ∙ ap (λ (x : Region). slice_get (mapped_in x) (c.args.page - x.first)) is
    ∙ sym (get_in_region 0 rs i r c.args.page c.requires.order c.requires.within bounds.0 bounds.1))
