-- How far an image's run of pages is made.
use Rattle.std.proofs.Common.{◌≡◌, map}
use Rattle.mm_areas.specs.Pages.{mapped_by}
use Rattle.image_load.specs.Pages.{image_page, run_of}
use Rattle.image_load.proofs.pages.image_pages.Given as goal

-- the pages so far
abbrev pub invariant-loop-n : goal.invariant-loop-n
invariant-loop-n l = map mapped_by l.pages.items ≡ run_of (image_page l.segments) l.first l.n
