use Rattle.std.proofs.Common.{sym, ◌∙◌}
use Rattle.lisafs_wire.specs.Grammar.{request_table}
use Rattle.lisafs_wire.specs.Messages.{asked}
use Rattle.lisafs_wire.proofs.Sizes.{requests_sound}
use Rattle.lisafs_wire.proofs.Sized.{has_room, is_sized, ok_holds}
use Rattle.lisafs_wire.proofs.encoding.encode.Goals as goal

pub size-requires-clause-room : goal.size-requires-clause-room
size-requires-clause-room c =
    let put = ok_holds c.put_request.result _
    (sym c.is_err.ensures.value ∙ c.if-is_err.false) c.put_request.ensures.ok in
    rw c.len-before.ensures (has_room request_table
    (asked c.args.request.now) c.args.out.now c.put_request.new.out requests_sound c.requires put).room

pub size-requires-clause-fits : goal.size-requires-clause-fits
size-requires-clause-fits c =
    let put = ok_holds c.put_request.result _
    (sym c.is_err.ensures.value ∙ c.if-is_err.false) c.put_request.ensures.ok in
    rw c.len-before.ensures (has_room request_table
    (asked c.args.request.now) c.args.out.now c.put_request.new.out requests_sound c.requires put).fits

pub returns-clause-ok : goal.returns-clause-ok
returns-clause-ok c =
    let put = ok_holds c.put_request.result _
    (sym c.is_err.ensures.value ∙ c.if-is_err.false) c.put_request.ensures.ok in
    rw (c.size.ensures, c.len-before.ensures)
    (is_sized request_table (asked c.args.request.now) c.args.out.now c.put_request.new.out put)
