-- How far a segment's pages are counted.
use Rattle.std.proofs.Common.{◌≡◌, ◌+◌, ◌-◌, ◌≤◌, List, min}
use Rattle.std.specs.FinMap as map_of
use Rattle.elf_image.specs.declared.image.Segment.{Segment}
use Rattle.mm_areas.specs.Pages.{laid}
use Rattle.image_load.specs.Pages.{image_page, run_of, segments_laid}
use Rattle.image_load.proofs.counts.capped_with.Given as goal

-- the segment's pages from this one on are counted
abbrev pub invariant-loop-page : goal.invariant-loop-page
invariant-loop-page l = record {
  low : l.start ≤ l.page;
  high : l.page ≤ l.start + l.many;
  counted : (all : List Segment) → l.count
      ≡ min
      (map_of.len (laid l.page (run_of (image_page all) l.page (l.start + l.many - l.page))
      (segments_laid all l.rest))) 16321;
}

abbrev pub decreases-loop-page : goal.decreases-loop-page
decreases-loop-page l = l.page - l.start
