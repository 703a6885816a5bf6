-- One area fewer is in hand each time.
use Rattle.std.proofs.Common.{length}
use Rattle.mm_space.specs.Handed.{hand_of}
use Rattle.guest_access.proofs.lending.+take_back.Given as goal

abbrev pub decreases-take_back : goal.decreases-take_back
decreases-take_back l = length (hand_of l.handed.now)
