-- A write that replies, or that waits.
use mir.Val.{to_z, of_z}
use mir.Syntax.{w64}
use Rattle.std.proofs.Common.{◌≡◌, sym, subst, rules}
use Rattle.kernel_model.specs.calls.Lookups.{descriptor}
use Rattle.call_fs.specs.Asked.{write_row_by}
use Rattle.call_fs.specs.Transfers.{AnswersTransfer, IsSure, Moves}
use Rattle.call_fs.proofs.Opened.{pipe_of_opened, stands_so}
use Rattle.call_fs.proofs.PipeWaits.{writing_waits}
use Rattle.call_fs.proofs.moving.writing.Goals as goal

pub returns-in-Replies-clause-row : goal.returns-in-Replies-clause-row
returns-in-Replies-clause-row c caller k moving =
    let a = c.args in
    let told : to_z w64 (of_z w64 c.in-Replies.reply) ≡ c.in-Replies.reply = search rules in
    subst (λ r. AnswersTransfer (write_row_by a.by a.fd a.at a.count caller) r c.in-Replies.transfer caller k
    a.space.now a.areas.now) (sym told)
    (subst (λ t. Moves (write_row_by a.by a.fd a.at a.count caller) t caller k a.space.now a.areas.now)
    c.in-Replies.is (c.in_ok-reply.ensures.row a.fd caller k moving.memory
    (stands_so caller k a.context.now.table a.files.now moving.table moving.files
    (descriptor a.fd) c.file_in_hand-file.result c.file_in_hand-file.ensures) moving.console))

pub returns-in-Replies-clause-sure : goal.returns-in-Replies-clause-sure
returns-in-Replies-clause-sure c =
    let a = c.args in
    subst (λ t. IsSure t a.files.now) c.in-Replies.is
    (c.in_ok-reply.ensures.sure a.files.now
    (pipe_of_opened a.files.now a.context.now.table (descriptor a.fd) c.file_in_hand-file.result
    c.file_in_hand-file.ensures))

pub returns-in-Waits-clause-row : goal.returns-in-Waits-clause-row
returns-in-Waits-clause-row c caller k moving =
    let a = c.args in
    (subst (λ t. Moves (write_row_by a.by a.fd a.at a.count caller) t caller k a.space.now a.areas.now) c.in-Waits.is
    (c.in_ok-reply.ensures.row a.fd caller k moving.memory
    (stands_so caller k a.context.now.table a.files.now moving.table moving.files
    (descriptor a.fd) c.file_in_hand-file.result c.file_in_hand-file.ensures) moving.console)).0

pub returns-in-Waits-clause-waits : goal.returns-in-Waits-clause-waits
returns-in-Waits-clause-waits c caller k moving =
    let a = c.args in
    let waits = subst (λ t. Moves (write_row_by a.by a.fd a.at a.count caller) t caller k a.space.now a.areas.now)
    c.in-Waits.is (c.in_ok-reply.ensures.row a.fd caller k moving.memory
    (stands_so caller k a.context.now.table a.files.now moving.table moving.files
    (descriptor a.fd) c.file_in_hand-file.result c.file_in_hand-file.ensures) moving.console) in
    writing_waits caller k a.fd c.used_by-used.result
    (c.used_by-used.ensures.end k.files caller.table (descriptor a.fd)
    (stands_so caller k a.context.now.table a.files.now moving.table moving.files
    (descriptor a.fd) c.file_in_hand-file.result c.file_in_hand-file.ensures)) a.at a.count a.space.now waits.1 a.by
    c.used_by-used.ensures.areas waits.0
