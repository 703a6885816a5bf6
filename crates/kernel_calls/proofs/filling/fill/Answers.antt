-- Bytes that were put, or a buffer that refused them.
use mir.Val.{SFits}
use mir.Syntax.{w64}
use Rattle.std.proofs.Common.{rules, ◌∙◌}
use Rattle.std.proofs.Math.Facts.{to_z-of_z}
use Rattle.kernel_model.specs.entries.Parts.{parts}
use Rattle.guest_access.proofs.KernelAreas.{are_those}
use Rattle.kernel_calls.proofs.Filled.{answers_filled, answers_unfilled}
use Rattle.kernel_calls.proofs.filling.fill.Goals as goal

pub returns-then-branch-clause-row : goal.returns-then-branch-clause-row
returns-then-branch-clause-row c caller k list waiting console calling =
    let a = c.args in
    let fits : SFits w64 c.from.result = search rules in
    answers_filled c.replied.result caller k a.context.now a.space.now _ a.areas.now _ list waiting console a.at
    a.bytes.now
    a.reply calling c.replied.ensures.effect c.in_ok-write.field-0
    (c.in_ok-write.ensures.wrote (parts k) (are_those k a.areas.now calling.areas)) c.if-branch.true
    (c.replied.ensures.reply ∙ to_z-of_z fits ∙ c.from.ensures)

pub returns-else-branch-clause-row : goal.returns-else-branch-clause-row
returns-else-branch-clause-row c caller k list waiting console calling =
    let a = c.args in
    answers_unfilled c.refused.result caller k a.context.now a.space.now _ a.areas.now _ list waiting console a.at
    a.bytes.now
    a.reply calling c.refused.ensures.effect c.in_ok-write.field-0
    (c.in_ok-write.ensures.wrote (parts k) (are_those k a.areas.now calling.areas)) c.if-branch.false
    c.refused.ensures.reply
