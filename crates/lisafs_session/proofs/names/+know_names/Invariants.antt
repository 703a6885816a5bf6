use Rattle.std.proofs.Common.{length}
use Rattle.lisafs_session.proofs.names.+know_names.Given as goal

abbrev pub decreases-know_names : goal.decreases-know_names
decreases-know_names l = length l.names.now
