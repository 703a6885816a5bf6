-- Each look at two routes takes a name of each.
use Rattle.std.proofs.Common.{length}
use Rattle.sn_text.proofs.name.+same_names.Given as goal

abbrev pub decreases-same_names : goal.decreases-same_names
decreases-same_names l = length l.names.now
