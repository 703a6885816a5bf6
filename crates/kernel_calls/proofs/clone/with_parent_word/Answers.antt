-- The caller's memory once more, where its word can't be written.
use Rattle.std.proofs.Common.{ap, ◌∙◌}
use Rattle.kernel_model.specs.calls.Clone.{sets_parent_word}
use Rattle.kernel_calls.proofs.ClonedWords.{sets_same}
use Rattle.kernel_calls.proofs.clone.with_parent_word.Goals as goal

pub returns-then-not-set-clause-words : goal.returns-then-not-set-clause-words
returns-then-not-set-clause-words c = (
  c.set_word.new.space,
  c.set_word.new.areas,
  sets_same c.in_ok-set.ensures
      (c.sets_parent_word-asked.ensures ∙ ap sets_parent_word c.flags_of.ensures) c.in_ok-words.ensures.space
      c.in_ok-words.ensures.areas c.if-not-set.true,
)
