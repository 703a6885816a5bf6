use Rattle.std.proofs.Common.{arith}
use Rattle.lisafs_wire.specs.Messages.{plain_answered}
use Rattle.lisafs_wire.proofs.Plain.{plain_found, plain_only}
use Rattle.lisafs_wire.proofs.decoding.decode_plain_answer.Goals as goal

pub returns-clause-found : goal.returns-clause-found
returns-clause-found c =
    plain_found plain_answered c.plain_answer_of.result c.args.bytes.now (λ i. omega (arith, c.type_inv.bytes i))
    c.plain_answer_of.ensures

pub returns-clause-only : goal.returns-clause-only
returns-clause-only c = plain_only plain_answered c.plain_answer_of.result c.args.bytes.now c.plain_answer_of.ensures
