-- Each rise is met once.
use Rattle.std.proofs.Common.{length}
use Rattle.node_numbers.proofs.faults.+raise.Given as goal

abbrev pub decreases-raise : goal.decreases-raise
decreases-raise l = length l.rises.now
