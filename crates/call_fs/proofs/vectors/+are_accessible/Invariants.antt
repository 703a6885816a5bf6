-- Each is gone over once.
use Rattle.std.proofs.Common.{length}
use Rattle.call_fs.proofs.vectors.+are_accessible.Given as goal

abbrev pub decreases-are_accessible : goal.decreases-are_accessible
decreases-are_accessible l = length l.buffers.now
