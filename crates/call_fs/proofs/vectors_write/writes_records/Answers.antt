-- Records that are refused, or whose buffers are found.
use Rattle.std.proofs.Common.{◌≡◌, ap, subst, ◌∙◌, rules}
use Rattle.std.proofs.lemmas.Result.{IfOk-weaker}
use Rattle.mm_space.specs.Handed.{AreaState}
use Rattle.kernel_model.specs.Names.{NamedMap}
use Rattle.kernel_model.specs.calls.Answers.{refuses}
use Rattle.kernel_model.specs.calls.ReadWrite.{writes}
use Rattle.kernel_model.specs.calls.Vectors.{with_buffers}
use Rattle.kernel_model.specs.entries.Parts.{done, outcome_in, parts}
use Rattle.call_fs.specs.Transfers.{Moves}
use Rattle.call_fs.proofs.FoundBuffers.{goes_found, goes_refused}
use Rattle.call_fs.proofs.Transferring.{memory_on, moves_alike}
use Rattle.call_fs.proofs.vectors_write.writes_records.Goals as goal

pub returns-in-Refused-clause-row : goal.returns-in-Refused-clause-row
returns-in-Refused-clause-row c caller k writing =
    let a = c.args in
    let d = a.opened.now.file.description in
    moves_alike (with_buffers caller a.records a.count (λ buffers. writes caller buffers d))
    (done (refuses c.in-Refused.errno)) c.denied.result caller k a.space.now a.areas.now
    (goes_refused (with_buffers caller a.records a.count (λ buffers. writes caller buffers d)) k
    (λ buffers. writes caller buffers d) c.in_ok-errno.field-0 c.in-Refused.errno c.in-Refused.is
    (c.in_ok-errno.ensures.row caller k (λ buffers. writes caller buffers d) writing.memory))
    (c.denied.ensures.row caller k a.space.now a.areas.now writing.memory)

pub returns-in-Found-clause-row : goal.returns-in-Found-clause-row
returns-in-Found-clause-row c =
    let a = c.args in
    let d = a.opened.now.file.description in
    let same : c.in-Found.buffers ≡ c.as_slice.result.now = search rules in
    IfOk-weaker c.writes_all.result _ _
    (λ t gives caller k writing.
    moves_alike (with_buffers caller a.records a.count (λ buffers. writes caller buffers d))
    (writes caller c.as_slice.result.now d) t caller k a.space.now a.areas.now
    (goes_found (with_buffers caller a.records a.count (λ buffers. writes caller buffers d)) k
    (λ buffers. writes caller buffers d) c.in_ok-errno.field-0 c.in-Found.buffers c.in-Found.is
    (c.in_ok-errno.ensures.row caller k (λ buffers. writes caller buffers d) writing.memory)
    ∙ ap (λ l. outcome_in (parts k) (writes caller l d)) same)
    (subst (λ (m : NamedMap AreaState). Moves (writes caller c.as_slice.result.now d) t caller k a.space.now m)
    c.in_ok-errno.ensures.kept
    (gives caller k (record {
      memory = memory_on caller k a.space.now a.areas.now c.buffers_at.new.areas c.in_ok-errno.ensures.kept
          writing.memory;
      pipe = writing.pipe;
      console = writing.console;
    }))))
    c.writes_all.ensures.row
