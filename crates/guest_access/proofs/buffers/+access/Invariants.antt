-- One area fewer may be asked for each time.
use Rattle.guest_access.proofs.buffers.+access.Given as goal

abbrev pub decreases-access : goal.decreases-access
decreases-access l = l.most
