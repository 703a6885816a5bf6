use Rattle.lisafs_wire.specs.Grammar.{answer_table, request_table}
use Rattle.lisafs_wire.proofs.Messages.{one_spelling as no_other}
use Rattle.lisafs_wire.proofs.Sizes.{requests_sound, answers_sound}
use Rattle.lisafs_wire.proofs.decoding.one_spelling.Goals as goal

pub returns-clause-of_requests : goal.returns-clause-of_requests
returns-clause-of_requests c = no_other request_table requests_sound

pub returns-clause-of_answers : goal.returns-clause-of_answers
returns-clause-of_answers c = no_other answer_table answers_sound
