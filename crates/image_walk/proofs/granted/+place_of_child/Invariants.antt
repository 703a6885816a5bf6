-- The children that are left to look at grow fewer.
use Rattle.std.proofs.Common.{length}
use Rattle.image_walk.proofs.granted.+place_of_child.Given as goal

abbrev pub decreases-place_of_child : goal.decreases-place_of_child
decreases-place_of_child g l = length l.lent.now
