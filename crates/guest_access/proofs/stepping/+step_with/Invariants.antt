-- One area fewer may be asked for each time.
use Rattle.guest_access.proofs.stepping.+step_with.Given as goal

abbrev pub decreases-step_with : goal.decreases-step_with
decreases-step_with l = l.most
