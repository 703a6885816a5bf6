use Rattle.std.proofs.Common.{◌+◌, get_or, inl, inr, ap, sym, ◌∙◌, arith}
use Rattle.std.proofs.lemmas.List.{get_or_default}
use Rattle.std.proofs.lemmas.Bool.{cases_lt, le-leb, lt-leb}
use Rattle.mm_areas.specs.declared.areas.Region.{Region}
use Rattle.mm_areas.specs.Regions.{pages_of}
use Rattle.mm_areas.proofs.PageLaws.{is_free_from}
use Rattle.mm_areas.proofs.IndexLaws.{index_ends}
use Rattle.mm_areas.proofs.FreeLaws.{free_before, reached_into, some_pages}
use Rattle.mm_areas.proofs.free.is_free.Goals as goal

pub returns-then-count-eq0 : goal.returns-then-count-eq0
returns-then-count-eq0 c =
    sym (is_free_from (pages_of c.args.regions.now) c.args.first c.args.count (λ q low high. absurd (omega arith)))

pub returns-then-index-regions : goal.returns-then-index-regions
returns-then-index-regions c =
    let rs = c.args.regions.now in
    let i = c.first_behind-index.result in
    let r = get_or rs i c.index-regions-index.result in
    let end = c.args.first + c.args.count in
    let some = some_pages 0 rs i c.index-regions-index.result c.requires.order c.if-index-regions.true in
    let ends = index_ends c.args.first rs i c.index-regions-index.result c.first_behind-index.ensures.index
    c.if-index-regions.true in
    elim (cases_lt r.first end) [
      | inl into ↦
          lt-leb end r.first into
          ∙ sym (reached_into rs i c.index-regions-index.result c.args.first c.args.count c.requires.order
          c.if-index-regions.true some (omega arith) ends into)
      | inr behind ↦
          le-leb end r.first behind
          ∙ sym (free_before 0 c.args.first c.args.count rs i c.first_behind-index.ensures.index c.requires.order
          (λ d less. omega
          (arith, behind, ap (λ (x : Region). x.first) (get_or_default rs i c.index-regions-index.result d less))))
    ]

pub returns-else-index-regions : goal.returns-else-index-regions
returns-else-index-regions c =
    sym (free_before 0 c.args.first c.args.count c.args.regions.now c.first_behind-index.result
    c.first_behind-index.ensures.index c.requires.order (λ d less. absurd (omega arith)))
