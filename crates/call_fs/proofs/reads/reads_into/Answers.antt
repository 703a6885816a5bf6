-- A buffer of which each byte may be written, or one may not.
use Rattle.std.proofs.Common.{◌∙◌}
use Rattle.std.proofs.lemmas.Result.{IfOk-weaker}
use Rattle.sn_errno.specs.declared.errno.Errno.TheVariants.{EFAULT}
use Rattle.kernel_model.specs.calls.Answers.{refuses}
use Rattle.kernel_model.specs.calls.ReadWrite.{reads_into, reads_of}
use Rattle.kernel_model.specs.entries.Parts.{done, parts}
use Rattle.guest_access.proofs.KernelAreas.{are_those}
use Rattle.call_fs.proofs.Reading.{into_by, reading_on}
use Rattle.call_fs.proofs.Transferring.{moves_alike}
use Rattle.call_fs.proofs.reads.reads_into.Goals as goal

pub returns-then-branch-clause-row : goal.returns-then-branch-clause-row
returns-then-branch-clause-row c =
    let a = c.args in
    let d = a.opened.now.file.description in
    IfOk-weaker c.reads_of.result _ _
    (λ t gives caller k reading.
    moves_alike (reads_into caller d a.buffers.now) (reads_of caller d.nonblock a.buffers.now d.object) t caller k
    c.reads_of.new.space c.reads_of.new.areas
    (into_by caller k a.space.now d a.buffers.now _ reading.memory.space
    (c.in_ok-are_accessible.ensures.row (parts k) (are_those k a.areas.now reading.memory.areas) ∙ c.if-branch.true))
    (gives caller k
    (reading_on caller k a.context.now a.space.now a.areas.now c.are_accessible.new.areas a.opened.now
    c.are_accessible.ensures.kept reading))) c.reads_of.ensures.row

pub returns-else-branch-clause-row : goal.returns-else-branch-clause-row
returns-else-branch-clause-row c caller k reading =
    let a = c.args in
    let d = a.opened.now.file.description in
    let on = reading_on caller k a.context.now a.space.now a.areas.now c.are_accessible.new.areas a.opened.now
    c.are_accessible.ensures.kept reading in
    moves_alike (reads_into caller d a.buffers.now) (done (refuses EFAULT)) c.denied.result caller k a.space.now
    c.are_accessible.new.areas
    (into_by caller k a.space.now d a.buffers.now _ reading.memory.space
    (c.in_ok-are_accessible.ensures.row (parts k) (are_those k a.areas.now reading.memory.areas) ∙ c.if-branch.false))
    (c.denied.ensures.row caller k a.space.now c.are_accessible.new.areas on.memory)

pub returns-then-branch-clause-apart : goal.returns-then-branch-clause-apart
returns-then-branch-clause-apart c =
    IfOk-weaker c.reads_of.result _ _
    (λ t stays apart. ((stays apart).0, (stays apart).1 ∙ c.are_accessible.ensures.kept)) c.reads_of.ensures.apart
