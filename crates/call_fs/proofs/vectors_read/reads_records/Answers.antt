-- Records that are refused, or whose buffers are found.
use Rattle.std.proofs.Common.{◌≡◌, ap, ◌∙◌, rules}
use Rattle.std.proofs.lemmas.Result.{IfOk-weaker}
use Rattle.kernel_model.specs.calls.Answers.{refuses}
use Rattle.kernel_model.specs.calls.ReadWrite.{reads}
use Rattle.kernel_model.specs.calls.Vectors.{with_buffers}
use Rattle.kernel_model.specs.entries.Parts.{done, outcome_in, parts}
use Rattle.call_fs.proofs.FoundBuffers.{goes_found, goes_refused}
use Rattle.call_fs.proofs.Reading.{reading_on}
use Rattle.call_fs.proofs.Transferring.{moves_alike}
use Rattle.call_fs.proofs.vectors_read.reads_records.Goals as goal

pub returns-in-Refused-clause-row : goal.returns-in-Refused-clause-row
returns-in-Refused-clause-row c caller k reading =
    let a = c.args in
    let d = a.opened.now.file.description in
    let on = reading_on caller k a.context.now a.space.now a.areas.now c.buffers_at.new.areas a.opened.now
    c.in_ok-errno.ensures.kept reading in
    moves_alike (with_buffers caller a.records a.count (λ buffers. reads caller buffers d))
    (done (refuses c.in-Refused.errno)) c.denied.result caller k a.space.now c.buffers_at.new.areas
    (goes_refused (with_buffers caller a.records a.count (λ buffers. reads caller buffers d)) k
    (λ buffers. reads caller buffers d) c.in_ok-errno.field-0 c.in-Refused.errno c.in-Refused.is
    (c.in_ok-errno.ensures.row caller k (λ buffers. reads caller buffers d) reading.memory))
    (c.denied.ensures.row caller k a.space.now c.buffers_at.new.areas on.memory)

pub returns-in-Found-clause-row : goal.returns-in-Found-clause-row
returns-in-Found-clause-row c =
    let a = c.args in
    let d = a.opened.now.file.description in
    let same : c.in-Found.buffers ≡ c.as_slice.result.now = search rules in
    IfOk-weaker c.reads_all.result _ _
    (λ t gives caller k reading.
    moves_alike (with_buffers caller a.records a.count (λ buffers. reads caller buffers d))
    (reads caller c.as_slice.result.now d) t caller k c.reads_all.new.space c.reads_all.new.areas
    (goes_found (with_buffers caller a.records a.count (λ buffers. reads caller buffers d)) k
    (λ buffers. reads caller buffers d) c.in_ok-errno.field-0 c.in-Found.buffers c.in-Found.is
    (c.in_ok-errno.ensures.row caller k (λ buffers. reads caller buffers d) reading.memory)
    ∙ ap (λ l. outcome_in (parts k) (reads caller l d)) same)
    (gives caller k
    (reading_on caller k a.context.now a.space.now a.areas.now c.buffers_at.new.areas a.opened.now
    c.in_ok-errno.ensures.kept reading))) c.reads_all.ensures.row

pub returns-in-Found-clause-apart : goal.returns-in-Found-clause-apart
returns-in-Found-clause-apart c =
    IfOk-weaker c.reads_all.result _ _
    (λ t stays apart. ((stays apart).0, (stays apart).1 ∙ c.in_ok-errno.ensures.kept)) c.reads_all.ensures.apart
