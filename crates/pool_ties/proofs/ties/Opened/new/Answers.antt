use Rattle.pool_ties.proofs.Steps.{begins}
use Rattle.pool_ties.proofs.ties.Opened.new.Goals as goal

pub of_words-requires : goal.of_words-requires
of_words-requires c = begins
