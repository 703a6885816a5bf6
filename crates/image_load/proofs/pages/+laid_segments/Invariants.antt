-- Each segment's pages are laid once.
use Rattle.std.proofs.Common.{length}
use Rattle.image_load.proofs.pages.+laid_segments.Given as goal

abbrev pub decreases-laid_segments : goal.decreases-laid_segments
decreases-laid_segments l = length l.segments.now
