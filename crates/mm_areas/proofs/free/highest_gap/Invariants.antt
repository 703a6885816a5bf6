use Rattle.std.proofs.Common.{◌≡◌, ℕ, ◌+◌, ◌-◌, ◌^◌, ◌<◌, ◌≤◌, false, length, get_or}
use Rattle.mm_areas.specs.declared.areas.Region.{Region}
use Rattle.mm_areas.specs.Pages.{is_free}
use Rattle.mm_areas.specs.Regions.{pages_of}
use Rattle.mm_areas.proofs.free.highest_gap.Given as goal

abbrev pub invariant-loop-index : goal.invariant-loop-index
invariant-loop-index l = record {
  top : l.end ≤ 2 ^ 26 - 256;
  begins : (d : Region) → l.index < length l.regions → l.end ≤ (get_or l.regions l.index d).first;
  above : (f : ℕ) → l.end < f + l.count → f + l.count ≤ 2 ^ 26 - 256 → is_free (pages_of l.regions) f l.count ≡ false;
}
