-- A segment's pages lie below the limit, and over those of the segments behind it.
use Rattle.std.proofs.Common.{◌≡◌, length, map, sym, ap, ◌∙◌, arith, rules}
use Rattle.std.specs.FinMap.{len}
use Rattle.std.proofs.lemmas.List.{length-map}
use Rattle.mm_areas.specs.Mappings.{Mapping, mapping, with_pages}
use Rattle.mm_areas.specs.Pages.{mapped_by}
use Rattle.image_load.specs.Pages.{image_page, segments_laid}
use Rattle.image_load.proofs.Firsts.{first_placed, rest_placed, rest_few}
use Rattle.image_load.proofs.Made.{IsToMake, ends_within, laid_whole, some_page}
use Rattle.image_load.proofs.Runs.{length-run}
use Rattle.image_load.proofs.pages.+laid_segments.Goals as goal

pub laid_segments-requires : goal.laid_segments-requires
laid_segments-requires t c =
    let first = c.first-item.result in
    let some = c.in-len1-up.len_at_least in (
      search rules,
      (
        rest_placed c.args.segments.now first some c.first-item.is c.requires.placed,
        rest_few c.args.all.now c.args.segments.now first 16320 some c.first-item.is c.requires.limit,
      ),
    )

pub end_to_make-end-requires : goal.end_to_make-end-requires
end_to_make-end-requires t c =
    some_page c.first-item.result (first_placed c.args.segments.now c.first-item.result c.in-len1-up.len_at_least
    c.first-item.is c.requires.placed)

pub image_pages-requires : goal.image_pages-requires
image_pages-requires t c =
    let to_make : IsToMake c.args.all.now c.args.segments.now c.first-item.result
    (mapping c.in_ok-areas-in-len1-up.areas).pages c.first_to_make-from.result c.end_to_make-end.result =
    record {
      some = c.in-len1-up.len_at_least;
      is = c.first-item.is;
      placed = c.requires.placed;
      others = ap (λ (m : Mapping). m.pages) c.in_ok-areas-in-len1-up.ensures;
      begins = c.first_to_make-from.ensures;
      ends = c.end_to_make-end.ensures;
    } in
    ends_within _ _ _ _ _ _ c.saturating_sub.result to_make c.saturating_sub.ensures

pub lay-requires-clause-end : goal.lay-requires-clause-end
lay-requires-clause-end t c =
    let to_make : IsToMake c.args.all.now c.args.segments.now c.first-item.result
    (mapping c.in_ok-areas-in-len1-up.areas).pages c.first_to_make-from.result c.end_to_make-end.result =
    record {
      some = c.in-len1-up.len_at_least;
      is = c.first-item.is;
      placed = c.requires.placed;
      others = ap (λ (m : Mapping). m.pages) c.in_ok-areas-in-len1-up.ensures;
      begins = c.first_to_make-from.ensures;
      ends = c.end_to_make-end.ensures;
    } in
    let long : length c.in_ok-pages-in-len1-up.pages.items ≡ c.saturating_sub.result =
    sym (length-map c.in_ok-pages-in-len1-up.pages.items mapped_by) ∙ ap length c.in_ok-pages-in-len1-up.ensures
    ∙ length-run (image_page c.args.all.now) c.first_to_make-from.result c.saturating_sub.result in
    omega (arith, long, ends_within _ _ _ _ _ _ c.saturating_sub.result to_make c.saturating_sub.ensures)

pub lay-requires-clause-limit : goal.lay-requires-clause-limit
lay-requires-clause-limit t c =
    let to_make : IsToMake c.args.all.now c.args.segments.now c.first-item.result
    (mapping c.in_ok-areas-in-len1-up.areas).pages c.first_to_make-from.result c.end_to_make-end.result =
    record {
      some = c.in-len1-up.len_at_least;
      is = c.first-item.is;
      placed = c.requires.placed;
      others = ap (λ (m : Mapping). m.pages) c.in_ok-areas-in-len1-up.ensures;
      begins = c.first_to_make-from.ensures;
      ends = c.end_to_make-end.ensures;
    } in
    let whole =
    laid_whole _ _ _ _ _ _ c.saturating_sub.result (map mapped_by c.in_ok-pages-in-len1-up.pages.items)
    to_make c.saturating_sub.ensures c.in_ok-pages-in-len1-up.ensures in
    omega (arith, c.requires.limit, ap len whole)

pub returns-in_ok-lay-in-len1-up : goal.returns-in_ok-lay-in-len1-up
returns-in_ok-lay-in-len1-up t c =
    let to_make : IsToMake c.args.all.now c.args.segments.now c.first-item.result
    (mapping c.in_ok-areas-in-len1-up.areas).pages c.first_to_make-from.result c.end_to_make-end.result =
    record {
      some = c.in-len1-up.len_at_least;
      is = c.first-item.is;
      placed = c.requires.placed;
      others = ap (λ (m : Mapping). m.pages) c.in_ok-areas-in-len1-up.ensures;
      begins = c.first_to_make-from.ensures;
      ends = c.end_to_make-end.ensures;
    } in
    let whole =
    laid_whole _ _ _ _ _ _ c.saturating_sub.result (map mapped_by c.in_ok-pages-in-len1-up.pages.items)
    to_make c.saturating_sub.ensures c.in_ok-pages-in-len1-up.ensures in
    c.in_ok-lay-in-len1-up.ensures.ok ∙ ap (with_pages (mapping c.in_ok-areas-in-len1-up.areas)) whole
    ∙ ap (λ (m : Mapping). with_pages m (segments_laid c.args.all.now c.args.segments.now))
    c.in_ok-areas-in-len1-up.ensures
