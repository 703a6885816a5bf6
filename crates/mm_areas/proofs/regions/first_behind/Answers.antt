use Rattle.std.proofs.Common.{leb, rules}
use Rattle.std.proofs.lemmas.List.Sorted.{IsPartitionPoint-from_clause, IsPartitionedBy-leb}
use Rattle.mm_areas.proofs.RegionLaws.{end_of}
use Rattle.mm_areas.proofs.IndexLaws.{ends_rise, index_is}
use Rattle.mm_areas.proofs.regions.first_behind.Goals as goal

pub returns-clause-index : goal.returns-clause-index
returns-clause-index c =
    let parted = IsPartitionedBy-leb end_of _ c.args.page (ends_rise 0 _ c.requires) in
    let point = IsPartitionPoint-from_clause (λ r. leb (end_of r) c.args.page) _ _ c.partition_point.ensures.partitioned
    parted (λ a r q k. search rules) in
    index_is c.args.page _ _ c.partition_point.ensures.bound point.0 point.1
