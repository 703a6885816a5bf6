use Rattle.std.proofs.Common.{◌≡◌, map, take}
use Rattle.mm_areas.specs.Shares.{seen_by, AreSharedIn}
use Rattle.mm_areas.proofs.fork.share_regions.Given as goal

abbrev pub invariant-loop-index : goal.invariant-loop-index
invariant-loop-index l = record {
  kept : map seen_by l.regions.items ≡ map seen_by l.fn.regions.items;
  copied : map seen_by l.others.items ≡ take l.index (map seen_by l.fn.regions.items);
  lost : AreSharedIn (take l.index l.regions.items);
  shared : AreSharedIn l.others.items;
}
