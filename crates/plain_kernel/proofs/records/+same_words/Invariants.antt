-- Each pair of words is compared once.
use Rattle.std.proofs.Common.{length}
use Rattle.plain_kernel.proofs.records.+same_words.Given as goal

abbrev pub decreases-same_words : goal.decreases-same_words
decreases-same_words l = length l.a.now
