-- Each is gone over once.
use Rattle.std.proofs.Common.{length}
use Rattle.kernel_calls.proofs.clear_words.+has_word.Given as goal

abbrev pub decreases-has_word : goal.decreases-has_word
decreases-has_word l = length l.ended.now
