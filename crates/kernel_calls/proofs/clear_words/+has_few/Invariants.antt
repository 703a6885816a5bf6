-- Each is gone over once.
use Rattle.std.proofs.Common.{length}
use Rattle.kernel_calls.proofs.clear_words.+has_few.Given as goal

abbrev pub decreases-has_few : goal.decreases-has_few
decreases-has_few l = length l.ended.now
