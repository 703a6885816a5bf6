use Rattle.std.proofs.Common.{◌≡◌, List, length, ap, sym, ◌∙◌, arith}
use Rattle.std.specs.FinMap.{len}
use Rattle.std.specs.Vec.{with_items}
use Rattle.std.proofs.lemmas.List.{with_items_is}
use Rattle.mm_areas.specs.declared.areas.Region.{Region}
use Rattle.mm_areas.specs.Regions.{pages_of}
use Rattle.mm_areas.specs.Order.{are_from}
use Rattle.mm_areas.specs.Own.{page_in, is_own_at}
use Rattle.mm_areas.specs.DecodedWords.{has_row_in}
use Rattle.mm_areas.proofs.RegionLaws.{test_from_order}
use Rattle.mm_areas.proofs.ProtectLaws.{as_many_protected, own_same, row_same}
use Rattle.mm_areas.proofs.areas.Areas.protect.Goals as goal
use Rattle.mm_areas.proofs.areas.Areas.protect.Goals.{After-protect_pages}

items : (c : After-protect_pages) → (with_items c.args.self.now.regions c.protect_pages.new.regions).items
    ≡ c.protect_pages.new.regions
items c =
    let old = c.args.self.now.regions in
    with_items_is old c.protect_pages.new.regions
    (omega (arith, c.protect_pages.auto.regions, ap length c.as_mut_slice.ensures.value, old.ok.0))

pub invariant_of-self-clause-in_order : goal.invariant_of-self-clause-in_order
invariant_of-self-clause-in_order c =
    ap (are_from 0) (items (goal.at.invariant_of-self-clause-in_order c).After-protect_pages)
    ∙ test_from_order 0 c.protect_pages.new.regions c.protect_pages.ensures.order

pub invariant_of-self-clause-counted : goal.invariant_of-self-clause-counted
invariant_of-self-clause-counted c =
    c.args.self.now.counted
    ∙ sym (ap (λ (rs : List Region). len (pages_of rs))
    (items (goal.at.invariant_of-self-clause-counted c).After-protect_pages) ∙ ap len c.protect_pages.ensures.pages
    ∙ as_many_protected _ _ _ _
    ∙ ap (λ (rs : List Region). len (pages_of rs)) c.as_mut_slice.ensures.value)

pub returns-clause-owned : goal.returns-clause-owned
returns-clause-owned c page =
    ap (λ (rs : List Region). is_own_at (page_in rs page)) (items (goal.at.returns-clause-owned c).After-protect_pages)
    ∙ own_same _ _ (c.protect_pages.ensures.contents page)
    ∙ ap (λ (rs : List Region). is_own_at (page_in rs page)) c.as_mut_slice.ensures.value

pub returns-clause-rows : goal.returns-clause-rows
returns-clause-rows c page =
    ap (λ (rs : List Region). has_row_in (page_in rs page)) (items (goal.at.returns-clause-rows c).After-protect_pages)
    ∙ row_same _ _ (c.protect_pages.ensures.contents page)
    ∙ ap (λ (rs : List Region). has_row_in (page_in rs page)) c.as_mut_slice.ensures.value
