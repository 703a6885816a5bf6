use Rattle.std.proofs.Common.{◌≡◌, ◌-◌, min, List, length, map, refl, ap, ◌∙◌, arith}
use Rattle.std.proofs.lemmas.List.{with_items_is, length-map}
use Rattle.mm_areas.specs.declared.page.Page.{Page}
use Rattle.mm_areas.specs.Pages.{mapped_by}
use Rattle.mm_areas.specs.Protected.{protected_from}
use Rattle.mm_areas.proofs.ProtectLaws.{protected_by_index}
use Rattle.mm_areas.proofs.protect.protect_region.Goals as goal

pub returns : goal.returns
returns c =
    let r = c.args.region.now in
    let ms = map mapped_by r.pages.items in
    let low = c.min-low.result in
    let high = c.min-high.result in
    let old : c.as_mut_slice.result.now ≡ r.pages.items = c.as_mut_slice.ensures.value in
    let kept : length c.protect_between.new.pages ≡ r.pages.len =
    omega (arith, c.protect_between.auto.pages, ap length old, r.pages.ok.0) in
    let is_high : high ≡ min (c.args.end - r.first) (length ms) =
    omega (
      arith,
      c.min-high.ensures,
      c.saturating_sub.ensures,
      c.len.ensures,
      r.pages.ok.0,
      length-map r.pages.items mapped_by,
    ) in
    let is_low : low ≡ min (c.args.first - r.first) high =
    omega (arith, c.min-low.ensures, c.saturating_sub-2.ensures) in
    record {
      place = refl;
      pages =
          ap (map mapped_by) (with_items_is r.pages c.protect_between.new.pages kept)
          ∙ c.protect_between.ensures.mapped
          ∙ ap (λ (xs : List Page). protected_from c.args.rights low (high - low) 0 (map mapped_by xs)) old
          ∙ protected_by_index c.args.rights c.args.first c.args.end r.first low high ms c.requires is_high is_low;
      contents =
          ap (map (λ (p : Page). p.content)) (with_items_is r.pages c.protect_between.new.pages kept)
          ∙ c.protect_between.ensures.contents
          ∙ ap (map (λ (p : Page). p.content)) old;
    }
