use Rattle.std.proofs.Common.{◌≡◌, ◌+◌, drop}
use Rattle.mm_areas.proofs.CountLaws.{reach_of}
use Rattle.mm_areas.proofs.free.mapped_within.Given as goal

abbrev pub invariant-loop-index : goal.invariant-loop-index
invariant-loop-index l = l.mapped + reach_of l.first l.end (drop l.index l.regions) ≡ reach_of l.first l.end l.regions
