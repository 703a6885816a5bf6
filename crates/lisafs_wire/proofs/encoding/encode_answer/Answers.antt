use Rattle.std.proofs.Common.{sym, ◌∙◌}
use Rattle.lisafs_wire.specs.Grammar.{answer_table}
use Rattle.lisafs_wire.specs.Messages.{answered}
use Rattle.lisafs_wire.proofs.Sizes.{answers_sound}
use Rattle.lisafs_wire.proofs.Sized.{has_room, is_sized, ok_holds}
use Rattle.lisafs_wire.proofs.encoding.encode_answer.Goals as goal

pub size-requires-clause-room : goal.size-requires-clause-room
size-requires-clause-room c =
    let put = ok_holds c.put_answer.result _ (sym c.is_err.ensures.value ∙ c.if-is_err.false) c.put_answer.ensures.ok in
    rw c.len-before.ensures (has_room answer_table
    (answered c.args.answer.now) c.args.out.now c.put_answer.new.out answers_sound c.requires put).room

pub size-requires-clause-fits : goal.size-requires-clause-fits
size-requires-clause-fits c =
    let put = ok_holds c.put_answer.result _ (sym c.is_err.ensures.value ∙ c.if-is_err.false) c.put_answer.ensures.ok in
    rw c.len-before.ensures (has_room answer_table
    (answered c.args.answer.now) c.args.out.now c.put_answer.new.out answers_sound c.requires put).fits

pub returns-clause-ok : goal.returns-clause-ok
returns-clause-ok c =
    let put = ok_holds c.put_answer.result _ (sym c.is_err.ensures.value ∙ c.if-is_err.false) c.put_answer.ensures.ok in
    rw (c.size.ensures, c.len-before.ensures)
    (is_sized answer_table (answered c.args.answer.now) c.args.out.now c.put_answer.new.out put)
