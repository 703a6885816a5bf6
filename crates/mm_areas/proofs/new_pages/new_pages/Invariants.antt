use Rattle.std.proofs.Common.{◌≡◌, map}
use Rattle.mm_areas.specs.Pages.{mapped_by, new_pages}
use Rattle.mm_areas.specs.Shares.{AreShared}
use Rattle.mm_areas.specs.DecodedWords.{AreUndecoded}
use Rattle.mm_areas.proofs.new_pages.new_pages.Given as goal

abbrev pub invariant-loop-number : goal.invariant-loop-number
invariant-loop-number l = record {
  pages : map mapped_by l.pages.items ≡ new_pages l.backing l.rights l.number;
  shared : AreShared l.pages.items;
  undecoded : AreUndecoded l.pages.items;
}
