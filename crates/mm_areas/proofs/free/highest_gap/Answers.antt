use Rattle.std.proofs.Common.{◌≡◌, ℕ, ◌+◌, ◌-◌, ◌<◌, ◌≤◌, true, length, get_or, List, ap, sym, ◌∙◌, inl, inr, arith}
use Rattle.std.proofs.lemmas.List.{get_or_default}
use Rattle.std.proofs.lemmas.Bool.{cases_lt}
use Rattle.mm_areas.specs.declared.areas.Region.{Region}
use Rattle.mm_areas.specs.Pages.{is_free}
use Rattle.mm_areas.specs.Regions.{pages_of}
use Rattle.mm_areas.specs.Order.{AreFrom}
use Rattle.mm_areas.proofs.RegionLaws.{end_of}
use Rattle.mm_areas.proofs.IndexLaws.{ends_rise}
use Rattle.mm_areas.proofs.FreeLaws.{free_between, reached_into, some_pages}
use Rattle.mm_areas.proofs.CountLaws.{end_bound}
use Rattle.mm_areas.proofs.free.highest_gap.Goals as goal

-- the region at an index, whatever stands for one that isn't there
region_end : (rs : List Region) (i : ℕ) (r d : Region) → i < length rs → r ≡ get_or rs i r
    → end_of (get_or rs i d) ≡ end_of r
region_end rs i r d less is = ap end_of (sym (get_or_default rs i r d less)) ∙ ap end_of (sym is)

gap : (rs : List Region) (i end count : ℕ) → AreFrom 0 rs → i ≤ length rs → count ≤ end
    → ((k : ℕ) (d : Region) → k < i → end_of (get_or rs k d) + count ≤ end)
    → ((d : Region) → i < length rs → end ≤ (get_or rs i d).first) → is_free (pages_of rs) (end - count) count ≡ true
gap rs i end count h le few front back =
    free_between 0 (end - count) count rs i h le (λ k d less. omega (arith, front k d less))
    (λ d less. omega (arith, back d less))

pub overflow_add-region : goal.overflow_add-region
overflow_add-region c =
    let r = c.index-regions-index.result in
    let bound = end_bound 0 c.args.regions.now (c.loop-index.index - 1) r c.requires.order (omega arith) in
    omega (arith, bound, ap end_of c.index-regions-index.is)

pub overflow_add-region-in-loop-index : goal.overflow_add-region-in-loop-index
overflow_add-region-in-loop-index c =
    let r = c.index-regions-index.result in
    let bound = end_bound 0 c.args.regions.now (c.loop-index.index - 1) r c.requires.order (omega arith) in
    omega (arith, bound, ap end_of c.index-regions-index.is)

pub returns-then-region-len-clause-free : goal.returns-then-region-len-clause-free
returns-then-region-len-clause-free c few =
    let rs = c.args.regions.now in
    let i = c.loop-index.index in
    let r = c.index-regions-index.result in
    gap rs i c.loop-index.end c.args.count c.requires.order (omega arith) few
    (λ k d less.
    omega (
      arith,
      ends_rise 0 rs c.requires.order k (i - 1) d (omega arith) (omega arith),
      region_end rs (i - 1) r d (omega arith) c.index-regions-index.is,
      c.if-region-len.true,
    ))
    c.loop-index.invariant.begins

pub returns-clause-free : goal.returns-clause-free
returns-clause-free c few =
    let none : c.loop-index.index ≡ 0 = omega arith in
    gap c.args.regions.now c.loop-index.index c.loop-index.end c.args.count c.requires.order (omega arith) few
    (λ k d less. absurd (omega arith)) c.loop-index.invariant.begins

pub loop-index-preserved : goal.loop-index-preserved
loop-index-preserved c =
    let rs = c.args.regions.now in
    let i = c.loop-index.index - 1 in
    let r = c.index-regions-index.result in
    let less : i < length rs = omega arith in
    let some = some_pages 0 rs i r c.requires.order less in
    record {
      top = omega arith;
      begins = λ d within.
          omega (
            arith,
            ap (λ (x : Region). x.first) (get_or_default rs i r d less),
            ap (λ (x : Region). x.first) c.index-regions-index.is,
          );
      above = λ f low high. elim (cases_lt c.loop-index.end (f + c.args.count)) [
        | inl over ↦ c.loop-index.invariant.above f over high
        | inr under ↦
            let begins : (get_or rs i r).first < f + c.args.count =
            omega (arith, ap (λ (x : Region). x.first) c.index-regions-index.is) in
            let ends : f < end_of (get_or rs i r) = omega (arith, ap end_of c.index-regions-index.is) in
            reached_into rs i r f c.args.count c.requires.order less some c.requires.some ends begins
      ];
    }
