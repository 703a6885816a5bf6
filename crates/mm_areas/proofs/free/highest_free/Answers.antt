use Rattle.std.proofs.Common.{◌-◌, sym, arith}
use Rattle.mm_areas.specs.Regions.{pages_of}
use Rattle.mm_areas.proofs.FreeLaws.{highest_found, highest_nowhere}
use Rattle.mm_areas.proofs.free.highest_free.Goals as goal

pub returns-then-end-count : goal.returns-then-end-count
returns-then-end-count c =
    let end = c.highest_gap-end.result in
    sym (highest_found (pages_of c.args.regions.now) (end - c.args.count) c.args.count (omega arith) (omega arith)
    (c.highest_gap-end.ensures.free (omega arith))
    (λ f more high. c.highest_gap-end.ensures.above f (omega arith) high))

pub returns-else-end-count : goal.returns-else-end-count
returns-else-end-count c =
    sym (highest_nowhere (pages_of c.args.regions.now) c.args.count
    (λ f low high. c.highest_gap-end.ensures.above f (omega arith) high))
