use Rattle.std.proofs.Common.{List, ◌≡◌, ℕ, ◌<◌, ◌≤◌, length, get_or, ap, sym, arith}
use Rattle.std.specs.Option.{is_some}
use Rattle.std.proofs.lemmas.List.{get_or_default}
use Rattle.mm_areas.specs.declared.areas.Region.{Region}
use Rattle.mm_areas.proofs.PageLaws.{within_range}
use Rattle.mm_areas.proofs.IndexLaws.{index_ends, has_in_region, get_nowhere}
use Rattle.mm_areas.proofs.regions.find.Goals as goal
use Rattle.mm_areas.proofs.regions.find.Goals.{else-index-regions-via-then-index-regions+else-regions-index}
use Rattle.mm_areas.proofs.regions.find.Goals.{else-index-regions-via-else-index-regions}

first_at : (rs : List Region) (i : ℕ) (r d : Region) → i < length rs → (get_or rs i r).first ≡ (get_or rs i d).first
first_at rs i r d less = ap (λ (x : Region). x.first) (get_or_default rs i r d less)

pub returns-then-regions-index-clause-held : goal.returns-then-regions-index-clause-held
returns-then-regions-index-clause-held c d =
    let rs = c.args.regions.now in
    let i = c.first_behind-index.result in
    let r = get_or rs i d in
    let same = first_at rs i c.index-regions-index.result d c.if-index-regions.true in
    let low : r.first ≤ c.args.page = omega (arith, same, c.if-regions-index.true) in
    within_range r.first (length r.pages.items) c.args.page low
    (index_ends c.args.page rs i d c.first_behind-index.ensures.index c.if-index-regions.true)

pub returns-then-regions-index-clause-mapped : goal.returns-then-regions-index-clause-mapped
returns-then-regions-index-clause-mapped c =
    let rs = c.args.regions.now in
    let i = c.first_behind-index.result in
    let d = c.index-regions-index.result in
    sym (has_in_region 0 rs i d c.args.page c.requires c.if-index-regions.true c.if-regions-index.true
    (index_ends c.args.page rs i d c.first_behind-index.ensures.index c.if-index-regions.true))

pub returns-else-index-regions-clause-mapped : goal.returns-else-index-regions-clause-mapped
returns-else-index-regions-clause-mapped c =
    let rs = c.args.regions.now in
    let i = c.first_behind-index.result in
    let none : ((d : Region) → i < length rs → c.args.page < (get_or rs i d).first) → _ =
    λ behind. sym
    (ap is_some (get_nowhere c.args.page 0 rs i c.first_behind-index.ensures.index c.requires behind)) in
    elim c.else-index-regions.branch [
      | else-index-regions-via-then-index-regions+else-regions-index w ↦
          none (λ d less. omega (arith, first_at rs i w.index-regions-index.result d less, w.if-regions-index.false))
      | else-index-regions-via-else-index-regions w ↦
          none (λ d less. absurd (omega (arith, less, w.if-index-regions.false)))
    ]
