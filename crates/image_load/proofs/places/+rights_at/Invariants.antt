-- Each segment is looked at once for its rights.
use Rattle.std.proofs.Common.{length}
use Rattle.image_load.proofs.places.+rights_at.Given as goal

abbrev pub decreases-rights_at : goal.decreases-rights_at
decreases-rights_at l = length l.segments.now
