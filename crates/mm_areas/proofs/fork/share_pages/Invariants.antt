use Rattle.std.proofs.Common.{◌≡◌, map, take}
use Rattle.mm_areas.specs.Pages.{mapped_by}
use Rattle.mm_areas.specs.Shares.{AreShared}
use Rattle.mm_areas.proofs.fork.share_pages.Given as goal

abbrev pub invariant-loop-index : goal.invariant-loop-index
invariant-loop-index l = record {
  kept : map mapped_by l.pages ≡ map mapped_by l.fn.pages;
  copied : map mapped_by l.others.items ≡ take l.index (map mapped_by l.fn.pages);
  lost : AreShared (take l.index l.pages);
  shared : AreShared l.others.items;
}
