-- Each look at the numbers takes one of them.
use Rattle.std.proofs.Common.{length}
use Rattle.futex_core.proofs.waiters.+least_above.Given as goal

abbrev pub decreases-least_above : goal.decreases-least_above
decreases-least_above l = length l.numbers.now
