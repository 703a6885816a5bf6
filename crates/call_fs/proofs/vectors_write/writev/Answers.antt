-- A register's open file description, or none.
use Rattle.std.proofs.Common.{Some, None, subst}
use Rattle.std.proofs.lemmas.Result.{IfOk-weaker}
use Rattle.sn_errno.specs.declared.errno.Errno.TheVariants.{EBADF}
use Rattle.fd_table.specs.Flags.{may_write}
use Rattle.kernel_model.specs.calls.Answers.{refuses}
use Rattle.kernel_model.specs.calls.Lookups.{descriptor, if_may, or_refuse}
use Rattle.kernel_model.specs.calls.ReadWrite.{writes, writev_row}
use Rattle.kernel_model.specs.calls.Vectors.{with_buffers}
use Rattle.kernel_model.specs.entries.Parts.{done}
use Rattle.call_fs.specs.Lookups.{StandsFor}
use Rattle.call_fs.proofs.Opened.{file_opened, outcome_by_file}
use Rattle.call_fs.proofs.Transferring.{moves_alike}
use Rattle.call_fs.proofs.vectors_write.writev.Goals as goal

pub returns-in-None-clause-row : goal.returns-in-None-clause-row
returns-in-None-clause-row c fd caller k has stands console =
    let a = c.args in
    let row = if_may may_write (λ d. with_buffers caller a.records a.count (λ buffers. writes caller buffers d)) in
    moves_alike (writev_row fd a.records a.count caller) (done (refuses EBADF)) c.denied.result caller k a.space.now
    a.areas.now
    (outcome_by_file row caller k fd None
    (subst (StandsFor k.files caller.table (descriptor fd)) c.in-None.is stands))
    (c.denied.ensures.row caller k a.space.now a.areas.now has)

pub returns-in-Some-clause-row : goal.returns-in-Some-clause-row
returns-in-Some-clause-row c =
    let a = c.args in
    let opened = c.in-Some.opened in
    IfOk-weaker c.writev_open.result _ _
    (λ t gives fd caller k has stands console.
    let row = if_may may_write (λ d. with_buffers caller a.records a.count (λ buffers. writes caller buffers d)) in
    let is = subst (StandsFor k.files caller.table (descriptor fd)) c.in-Some.is stands in
    moves_alike (writev_row fd a.records a.count caller) (or_refuse EBADF row (Some opened.file)) t caller k
    a.space.now a.areas.now
    (outcome_by_file row caller k fd (Some opened.file)
    (file_opened k.files caller.table (descriptor fd) opened is))
    (gives caller k (record { memory = has; pipe = is.pipe; console = console }))) c.writev_open.ensures.row
