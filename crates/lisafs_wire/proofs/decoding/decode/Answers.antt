use Rattle.std.proofs.Common.{arith}
use Rattle.lisafs_wire.specs.Grammar.{request_table}
use Rattle.lisafs_wire.specs.Messages.{decoded}
use Rattle.lisafs_wire.specs.Reading.{GivesIfRoom}
use Rattle.lisafs_wire.proofs.Messages.{found, is_read}
use Rattle.lisafs_wire.proofs.Sizes.{requests_sound}
use Rattle.lisafs_wire.proofs.decoding.decode.Goals as goal

pub returns-clause-found : goal.returns-clause-found
returns-clause-found c =
    found request_table decoded c.request_of.result c.args.bytes.now
    (λ i. omega (arith, c.type_inv.bytes i)) c.request_of.ensures

pub returns-clause-only : goal.returns-clause-only
returns-clause-only c = λ m is e.
    is_read (GivesIfRoom decoded c.request_of.result) request_table c.args.bytes.now m requests_sound is e
    c.request_of.ensures
