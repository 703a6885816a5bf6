use Rattle.sn_ids.proofs.Steps.{begins}
use Rattle.sn_ids.proofs.ids.Opened.new.Goals as goal

pub of_words-requires : goal.of_words-requires
of_words-requires c = begins
