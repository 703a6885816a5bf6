-- A read that replies, or that waits.
use mir.Val.{to_z, of_z}
use mir.Syntax.{w64}
use Rattle.std.proofs.Common.{◌≡◌, sym, subst, rules}
use Rattle.kernel_model.specs.calls.Lookups.{descriptor}
use Rattle.call_fs.specs.Asked.{read_row_by}
use Rattle.call_fs.specs.CallEnd.{IsApartBy}
use Rattle.call_fs.specs.Transfers.{AnswersTransfer, IsSure, Moves}
use Rattle.call_fs.proofs.Opened.{stands_so}
use Rattle.call_fs.proofs.PipeWaits.{reading_waits}
use Rattle.call_fs.proofs.moving.reading.Goals as goal

pub returns-in-Replies-clause-row : goal.returns-in-Replies-clause-row
returns-in-Replies-clause-row c caller k console moving =
    let a = c.args in
    let told : to_z w64 (of_z w64 c.in-Replies.reply) ≡ c.in-Replies.reply = search rules in
    subst (λ r. AnswersTransfer (read_row_by a.by a.fd a.at a.count caller) r c.in-Replies.transfer caller k
    c.read_by.new.space c.read_by.new.areas) (sym told)
    (subst (λ t. Moves (read_row_by a.by a.fd a.at a.count caller) t caller k c.read_by.new.space c.read_by.new.areas)
    c.in-Replies.is (c.in_ok-reply.ensures.row a.fd caller k moving.task moving.memory
    (stands_so caller k a.context.now.table a.files.now moving.table moving.files
    (descriptor a.fd) c.file_in_hand-file.result c.file_in_hand-file.ensures)))

pub returns-in-Replies-clause-sure : goal.returns-in-Replies-clause-sure
returns-in-Replies-clause-sure c =
    subst (λ t. IsSure t c.args.files.now) c.in-Replies.is (c.in_ok-reply.ensures.sure c.args.files.now)

pub returns-in-Replies-clause-apart : goal.returns-in-Replies-clause-apart
returns-in-Replies-clause-apart c lacks = c.in_ok-reply.ensures.apart (subst IsApartBy (sym c.in-Replies.is) lacks)

pub returns-in-Waits-clause-apart : goal.returns-in-Waits-clause-apart
returns-in-Waits-clause-apart c waits = c.in_ok-reply.ensures.apart (subst IsApartBy (sym c.in-Waits.is) tt)

pub returns-in-Waits-clause-row : goal.returns-in-Waits-clause-row
returns-in-Waits-clause-row c caller k console moving =
    let a = c.args in
    (subst (λ t. Moves (read_row_by a.by a.fd a.at a.count caller) t caller k c.read_by.new.space
    c.read_by.new.areas) c.in-Waits.is
    (c.in_ok-reply.ensures.row a.fd caller k moving.task moving.memory
    (stands_so caller k a.context.now.table a.files.now moving.table moving.files
    (descriptor a.fd) c.file_in_hand-file.result c.file_in_hand-file.ensures))).0

pub returns-in-Waits-clause-waits : goal.returns-in-Waits-clause-waits
returns-in-Waits-clause-waits c caller k console moving =
    let a = c.args in
    let waits = subst (λ t. Moves (read_row_by a.by a.fd a.at a.count caller) t caller k c.read_by.new.space
    c.read_by.new.areas)
    c.in-Waits.is (c.in_ok-reply.ensures.row a.fd caller k moving.task moving.memory
    (stands_so caller k a.context.now.table a.files.now moving.table moving.files
    (descriptor a.fd) c.file_in_hand-file.result c.file_in_hand-file.ensures)) in
    reading_waits caller k a.fd c.used_by-used.result
    (c.used_by-used.ensures.end k.files caller.table (descriptor a.fd)
    (stands_so caller k a.context.now.table a.files.now moving.table moving.files
    (descriptor a.fd) c.file_in_hand-file.result c.file_in_hand-file.ensures)) a.at a.count c.read_by.new.space
    waits.1 a.by
    c.used_by-used.ensures.areas waits.0
