-- Each opening task is looked at once.
use Rattle.std.proofs.Common.{length}
use Rattle.plain_kernel.proofs.records.+begin_words.Given as goal

abbrev pub decreases-begin_words : goal.decreases-begin_words
decreases-begin_words l = length l.tasks.now
