-- The bytes that go into a pipe.
use mir.Syntax.{w64}
use Rattle.std.proofs.Common.{min, ap, ◌∙◌, arith}
use Rattle.std.proofs.lemmas.Int.{to_z_pos}
use Rattle.call_fs.proofs.Writing.{put_answers, put_sure}
use Rattle.call_fs.proofs.writes.puts.Goals as goal

pub returns-clause-row : goal.returns-clause-row
returns-clause-row c caller k own shared bytes has there is =
    let a = c.args in
    put_answers caller k own shared a.from a.count bytes has is c.requires.all a.name a.pipe.now _ _ there
    (c.min-taken.ensures ∙ ap (min a.count) c.requires.room)
    (to_z_pos w64 _ (omega (arith, c.min-taken.ensures, c.requires.few)))

pub returns-clause-sure : goal.returns-clause-sure
returns-clause-sure c files there =
    let a = c.args in
    put_sure files a.name a.pipe.now a.from a.count _ c.requires.all there c.requires.within
    (c.min-taken.ensures ∙ ap (min a.count) c.requires.room)
