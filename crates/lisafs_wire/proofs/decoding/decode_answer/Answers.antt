use Rattle.std.proofs.Common.{arith}
use Rattle.lisafs_wire.specs.Grammar.{answer_table}
use Rattle.lisafs_wire.specs.Messages.{answered}
use Rattle.lisafs_wire.specs.Reading.{GivesIfRoom}
use Rattle.lisafs_wire.proofs.Messages.{found, is_read}
use Rattle.lisafs_wire.proofs.Sizes.{answers_sound}
use Rattle.lisafs_wire.proofs.decoding.decode_answer.Goals as goal

pub returns-clause-found : goal.returns-clause-found
returns-clause-found c =
    found answer_table answered c.answer_of.result c.args.bytes.now
    (λ i. omega (arith, c.type_inv.bytes i)) c.answer_of.ensures

pub returns-clause-only : goal.returns-clause-only
returns-clause-only c = λ m is e.
    is_read (GivesIfRoom answered c.answer_of.result) answer_table c.args.bytes.now m answers_sound is e
    c.answer_of.ensures
