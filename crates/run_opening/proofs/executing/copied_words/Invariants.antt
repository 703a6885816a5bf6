-- How far the words are copied.
use Rattle.std.proofs.Common.{◌≡◌, take}
use Rattle.run_opening.proofs.executing.copied_words.Given as goal

-- the copies so far are a front of the list
abbrev pub invariant-loop-word : goal.invariant-loop-word
invariant-loop-word l = l.copies ≡ take l.word-index l.words
