-- Each segment puts its part of a page once.
use Rattle.std.proofs.Common.{length}
use Rattle.image_load.proofs.pages.+image_frame.Given as goal

abbrev pub decreases-image_frame : goal.decreases-image_frame
decreases-image_frame l = length l.segments.now
