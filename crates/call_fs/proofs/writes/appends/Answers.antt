-- The bytes that go to the console.
use mir.Syntax.{w64}
use Rattle.std.proofs.Common.{arith}
use Rattle.std.proofs.lemmas.Int.{to_z_pos}
use Rattle.call_fs.proofs.Writing.{append_answers}
use Rattle.call_fs.proofs.writes.appends.Goals as goal

pub returns-clause-row : goal.returns-clause-row
returns-clause-row c caller k own shared bytes has is =
    append_answers caller k own shared c.args.from c.args.count bytes has is c.requires.all _
    (to_z_pos w64 _ (omega (arith, c.requires.few)))
