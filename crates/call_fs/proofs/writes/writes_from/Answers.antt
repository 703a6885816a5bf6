-- A buffer of which each byte may be read, or one may not.
use Rattle.std.proofs.Common.{None, Some, ◌∙◌}
use Rattle.sn_errno.specs.declared.errno.Errno.TheVariants.{EFAULT}
use Rattle.kernel_model.specs.calls.Answers.{refuses}
use Rattle.kernel_model.specs.calls.ReadWrite.{writes_of}
use Rattle.kernel_model.specs.entries.Parts.{done, parts}
use Rattle.guest_access.proofs.KernelAreas.{are_those}
use Rattle.call_fs.specs.Records.{buffers_in}
use Rattle.call_fs.specs.Transfers.{writes_from}
use Rattle.call_fs.proofs.Transferring.{moves_alike}
use Rattle.call_fs.proofs.Gathered.{gathered_none, gathered_some}
use Rattle.call_fs.proofs.Writing.{writes_by}
use Rattle.call_fs.proofs.writes.writes_from.Goals as goal

pub returns-then-branch-clause-row : goal.returns-then-branch-clause-row
returns-then-branch-clause-row c caller k writing =
    let a = c.args in
    let d = a.opened.now.file.description in
    let there = gathered_some (parts k) a.space.now (buffers_in a.from)
    (c.in_ok-may_be_read.ensures.row (parts k) (are_those k a.areas.now writing.memory.areas) ∙ c.if-branch.true) in
    moves_alike (writes_from caller d (buffers_in a.from)) (writes_of d.nonblock there.0 d.object) c.writes_of.result
    caller k a.space.now a.areas.now
    (writes_by caller k a.space.now d (buffers_in a.from) (Some there.0) writing.memory.space there.1.0)
    (c.writes_of.ensures.row caller k a.space.now a.areas.now there.0 writing there.1)

pub returns-else-branch-clause-row : goal.returns-else-branch-clause-row
returns-else-branch-clause-row c caller k writing =
    let a = c.args in
    let d = a.opened.now.file.description in
    moves_alike (writes_from caller d (buffers_in a.from)) (done (refuses EFAULT)) c.denied.result caller k a.space.now
    a.areas.now
    (writes_by caller k a.space.now d (buffers_in a.from) None writing.memory.space
    (gathered_none (parts k) a.space.now (buffers_in a.from)
    (c.in_ok-may_be_read.ensures.row (parts k) (are_those k a.areas.now writing.memory.areas) ∙ c.if-branch.false)))
    (c.denied.ensures.row caller k a.space.now a.areas.now writing.memory)
