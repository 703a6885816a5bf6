use Rattle.std.proofs.Common.{◌≡◌, ◌+◌, drop, ap, arith}
use Rattle.std.proofs.Math.ListN.{drop_of_length-le}
use Rattle.mm_areas.proofs.RegionLaws.{end_of}
use Rattle.mm_areas.proofs.CountLaws.{reach_of, len-reach, reach_bound, reach_passed, reach_next, reach_ended}
use Rattle.mm_areas.proofs.CountLaws.{end_bound}
use Rattle.mm_areas.proofs.free.mapped_within.Goals as goal

pub loop-index-init : goal.loop-index-init
loop-index-init c =
    omega (
      arith,
      reach_passed c.args.first (c.args.first + c.args.count) c.args.regions.now c.first_behind-index.result
          c.first_behind-index.ensures.index,
    )

pub returns-then-region-end : goal.returns-then-region-end
returns-then-region-end c =
    omega (
      arith,
      len-reach c.args.first c.args.count 0 c.args.regions.now c.requires.order,
      c.loop-index.invariant,
      reach_ended c.args.first (c.args.first + c.args.count) 0 c.args.regions.now c.loop-index.index
          c.index-regions-index.result c.requires.order (omega arith) c.index-regions-index.is (omega arith),
    )

pub reach-mapped-requires : goal.reach-mapped-requires
reach-mapped-requires c =
    let bound = end_bound 0 c.args.regions.now c.loop-index.index c.index-regions-index.result
    c.requires.order (omega arith) in
    omega (arith, bound, ap end_of c.index-regions-index.is)

pub overflow_add-mapped : goal.overflow_add-mapped
overflow_add-mapped c =
    let end = c.args.first + c.args.count in
    omega (
      arith,
      c.loop-index.invariant,
      reach_bound c.args.first end 0 c.args.regions.now c.requires.order,
      reach_next c.args.first end c.args.regions.now c.loop-index.index c.index-regions-index.result
          (omega arith) c.index-regions-index.is,
    )

pub returns : goal.returns
returns c =
    let end = c.args.first + c.args.count in
    let none : reach_of c.args.first end (drop c.loop-index.index c.args.regions.now) ≡ 0 =
    ap (reach_of c.args.first end) (drop_of_length-le c.args.regions.now (omega arith)) in
    omega (
      arith,
      len-reach c.args.first c.args.count 0 c.args.regions.now c.requires.order,
      c.loop-index.invariant,
      none,
    )
