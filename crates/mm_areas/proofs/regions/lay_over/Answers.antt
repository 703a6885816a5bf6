use Rattle.std.proofs.Common.{◌≡◌, ℕ, ◌+◌, ◌-◌, List, length, sym, ap, ◌∙◌, subst, arith}
use Rattle.mm_areas.specs.declared.areas.Region.{Region}
use Rattle.mm_areas.specs.Pages.{laid, unmapped}
use Rattle.mm_areas.specs.Regions.{pages_of}
use Rattle.mm_areas.specs.Places.{AreCut}
use Rattle.mm_areas.proofs.PageLaws.{is_free_unmapped, laid-unmapped}
use Rattle.mm_areas.proofs.RegionLaws.{mapped_in, length-mapped_in}
use Rattle.mm_areas.proofs.regions.lay_over.Goals as goal

pub take_out-requires-clause-cut_first : goal.take_out-requires-clause-cut_first
take_out-requires-clause-cut_first c =
    subst (λ (rs : List Region). AreCut c.args.region.first rs) (sym c.in_ok-reserve.ensures.items)
    (c.cut-2.ensures.others c.args.region.first c.in_ok-cut.ensures.ok)

pub put-requires-clause-free : goal.put-requires-clause-free
put-requires-clause-free c =
    let r = c.args.region in
    let count : (r.first + c.len.result) - r.first ≡ length r.pages.items =
    omega (arith, c.len.ensures, r.pages.ok.0) in
    is_free_unmapped r.first (length r.pages.items) (pages_of c.take_out.new.regions.items)
    (pages_of c.reserve.new.self.items)
    (c.take_out.ensures.pages ∙ ap (λ (n : ℕ). unmapped r.first n (pages_of c.reserve.new.self.items)) count)

pub returns-clause-ok : goal.returns-clause-ok
returns-clause-ok c =
    let r = c.args.region in
    let count : (r.first + c.len.result) - r.first ≡ length (mapped_in r) =
    omega (arith, c.len.ensures, r.pages.ok.0, length-mapped_in r) in
    let before : pages_of c.reserve.new.self.items ≡ pages_of c.args.regions.now.items =
    ap pages_of c.in_ok-reserve.ensures.items ∙ c.cut-2.ensures.pages ∙ c.cut.ensures.pages in
    c.put.ensures.pages
    ∙ ap (laid r.first (mapped_in r)) (c.take_out.ensures.pages
    ∙ ap (λ (n : ℕ). unmapped r.first n (pages_of c.reserve.new.self.items)) count)
    ∙ laid-unmapped r.first (mapped_in r) (pages_of c.reserve.new.self.items)
    ∙ ap (laid r.first (mapped_in r)) before
