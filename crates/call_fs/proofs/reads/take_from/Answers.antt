-- A pipe's oldest bytes that were put into buffers, or buffers that refused them.
use mir.Syntax.{w64}
use Rattle.std.proofs.Common.{◌++◌, ap, sym, ◌∙◌, arith, length-append, take}
use Rattle.std.specs.Prelude.{pos}
use Rattle.std.proofs.lemmas.Int.{to_z_pos}
use Rattle.sn_errno.specs.declared.errno.Errno.TheVariants.{EFAULT}
use Rattle.kernel_model.specs.calls.Answers.{refuses}
use Rattle.kernel_model.specs.entries.Parts.{done, parts}
use Rattle.guest_access.proofs.KernelAreas.{are_those}
use Rattle.call_fs.proofs.Reading.{take_answers, take_refused}
use Rattle.call_fs.proofs.Transferring.{moves_alike}
use Rattle.call_fs.proofs.reads.take_from.Goals as goal

pub returns-then-branch-clause-row : goal.returns-then-branch-clause-row
returns-then-branch-clause-row c caller k same has there =
    let a = c.args in
    let runs = c.front.result.0.now ++ c.front.result.1.now in
    take_answers caller k a.context.now.task a.space.now c.scatter.new.space a.areas.now c.scatter.new.areas a.name
    a.pipe.now a.buffers.now a.count runs same has there c.requires.all
    (c.front.ensures.bytes ∙ ap (take a.count) c.oldest.ensures) c.in_ok-scatter.field-0 _
    (c.in_ok-scatter.ensures.wrote (parts k) (are_those k a.areas.now has.areas))
    c.if-branch.true
    (to_z_pos w64 _ (omega (arith, c.front.ensures.len, c.requires.few))
    ∙ ap pos (sym (length-append c.front.result.0.now c.front.result.1.now)))

pub returns-else-branch-clause-row : goal.returns-else-branch-clause-row
returns-else-branch-clause-row c caller k same has there =
    let a = c.args in
    let runs = c.front.result.0.now ++ c.front.result.1.now in
    let refused = take_refused caller k a.context.now.task a.space.now c.scatter.new.space a.areas.now
    c.scatter.new.areas a.name a.pipe.now a.buffers.now a.count runs same has there c.requires.all
    (c.front.ensures.bytes ∙ ap (take a.count) c.oldest.ensures) c.in_ok-scatter.field-0
    (c.in_ok-scatter.ensures.wrote (parts k) (are_those k a.areas.now has.areas))
    c.if-branch.false in
    moves_alike _ (done (refuses EFAULT)) c.denied.result caller k c.scatter.new.space c.scatter.new.areas refused.0
    (c.denied.ensures.row caller k c.scatter.new.space c.scatter.new.areas
    (record { space = has.space ∙ sym refused.1; there = has.there; areas = has.areas ∙ sym refused.2 }))

pub returns-then-branch-clause-apart : goal.returns-then-branch-clause-apart
returns-then-branch-clause-apart c lacks = absurd lacks

pub returns-else-branch-clause-apart : goal.returns-else-branch-clause-apart
returns-else-branch-clause-apart c lacks = absurd (c.denied.ensures.lean lacks)
