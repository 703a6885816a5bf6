-- A register's open file description, or none.
use Rattle.std.proofs.Common.{Some, None, subst}
use Rattle.std.proofs.lemmas.Result.{IfOk-weaker}
use Rattle.sn_errno.specs.declared.errno.Errno.TheVariants.{EBADF}
use Rattle.fd_table.specs.Flags.{may_read}
use Rattle.kernel_model.specs.calls.Answers.{refuses}
use Rattle.kernel_model.specs.calls.Lookups.{descriptor, if_may, or_refuse}
use Rattle.kernel_model.specs.calls.ReadWrite.{reads, readv_row}
use Rattle.kernel_model.specs.calls.Vectors.{with_buffers}
use Rattle.kernel_model.specs.entries.Parts.{done}
use Rattle.call_fs.specs.Lookups.{StandsFor}
use Rattle.call_fs.proofs.Opened.{file_opened, outcome_by_file}
use Rattle.call_fs.proofs.Transferring.{moves_alike}
use Rattle.call_fs.proofs.vectors_read.readv.Goals as goal

pub returns-in-None-clause-row : goal.returns-in-None-clause-row
returns-in-None-clause-row c fd caller k same has stands =
    let a = c.args in
    let row = if_may may_read (λ d. with_buffers caller a.records a.count (λ buffers. reads caller buffers d)) in
    moves_alike (readv_row fd a.records a.count caller) (done (refuses EBADF)) c.denied.result caller k a.space.now
    a.areas.now
    (outcome_by_file row caller k fd None
    (subst (StandsFor k.files caller.table (descriptor fd)) c.in-None.is stands))
    (c.denied.ensures.row caller k a.space.now a.areas.now has)

pub returns-in-Some-clause-row : goal.returns-in-Some-clause-row
returns-in-Some-clause-row c =
    let a = c.args in
    let opened = c.in-Some.opened in
    IfOk-weaker c.readv_open.result _ _
    (λ t gives fd caller k same has stands.
    let row = if_may may_read (λ d. with_buffers caller a.records a.count (λ buffers. reads caller buffers d)) in
    let is = subst (StandsFor k.files caller.table (descriptor fd)) c.in-Some.is stands in
    moves_alike (readv_row fd a.records a.count caller) (or_refuse EBADF row (Some opened.file)) t caller k
    c.readv_open.new.space c.readv_open.new.areas
    (outcome_by_file row caller k fd (Some opened.file)
    (file_opened k.files caller.table (descriptor fd) opened is))
    (gives caller k (record { task = same; memory = has; pipe = is.pipe }))) c.readv_open.ensures.row
