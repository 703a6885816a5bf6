-- Each segment is counted once.
use Rattle.std.proofs.Common.{length}
use Rattle.image_load.proofs.counts.+capped_pages.Given as goal

abbrev pub decreases-capped_pages : goal.decreases-capped_pages
decreases-capped_pages l = length l.segments.now
