-- Each is gone over once.
use Rattle.std.proofs.Common.{length}
use Rattle.kernel_calls.proofs.clear_words.+clear_each.Given as goal

abbrev pub decreases-clear_each : goal.decreases-clear_each
decreases-clear_each l = length l.ended.now
