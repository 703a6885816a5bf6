-- How many names lead further.
use Rattle.std.proofs.Common.{length}
use Rattle.host_cases.proofs.visits.+visit.Given as goal

abbrev pub decreases-visit : goal.decreases-visit
decreases-visit g l = length l.names.now
