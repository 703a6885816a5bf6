-- Each segment is looked at once for its end.
use Rattle.std.proofs.Common.{length}
use Rattle.image_load.proofs.places.+highest_end.Given as goal

abbrev pub decreases-highest_end : goal.decreases-highest_end
decreases-highest_end l = length l.segments.now
