-- A child's status that was put, or nowhere to be put, or could not be.
use Rattle.std.proofs.Common.{ap, subst, ◌∙◌}
use Rattle.std.specs.Int.{to_le_bytes, w32}
use Rattle.kernel_model.specs.entries.Areas.{bytes_written}
use Rattle.kernel_model.specs.entries.Parts.{parts, outcome_in}
use Rattle.guest_access.specs.Trying.{Wrote}
use Rattle.guest_access.proofs.KernelAreas.{are_those}
use Rattle.kernel_calls.proofs.ChildRows.{answers_put, answers_reaped, answers_unput}
use Rattle.kernel_calls.proofs.wait.reap.Goals as goal

pub returns-then-address-eq0-clause-row : goal.returns-then-address-eq0-clause-row
returns-then-address-eq0-clause-row c caller k list waiting console calling ended =
    let a = c.args in
    answers_reaped c.reaped.result caller k a.context.now a.space.now a.space.now a.areas.now a.areas.now list waiting
    console a.address a.child a.status a.which calling ended c.if-address-eq0.true c.reaped.ensures.reply
    c.reaped.ensures.effect

pub returns-then-branch-clause-row : goal.returns-then-branch-clause-row
returns-then-branch-clause-row c caller k list waiting console calling ended =
    let a = c.args in
    answers_put c.reaped-then-branch.result caller k a.context.now a.space.now c.write.new.space a.areas.now
    c.write.new.areas list waiting console a.address a.child a.status a.which calling ended c.in_ok-write.field-0
    (subst (λ bytes. Wrote (outcome_in (parts k) (bytes_written a.context.now.task a.space.now a.address bytes))
    c.in_ok-write.field-0 a.space.now c.write.new.space a.areas.now c.write.new.areas)
    (c.to_le_bytes-number.ensures ∙ ap (to_le_bytes w32) c.number.ensures)
    (c.in_ok-write.ensures.wrote (parts k) (are_those k a.areas.now calling.areas))) c.if-branch.true
    c.if-address-eq0.false c.reaped-then-branch.ensures.reply c.reaped-then-branch.ensures.effect

pub returns-else-branch-clause-row : goal.returns-else-branch-clause-row
returns-else-branch-clause-row c caller k list waiting console calling ended =
    let a = c.args in
    answers_unput c.refused.result caller k a.context.now a.space.now c.write.new.space a.areas.now c.write.new.areas
    list waiting console a.address a.child a.status a.which calling ended c.in_ok-write.field-0
    (subst (λ bytes. Wrote (outcome_in (parts k) (bytes_written a.context.now.task a.space.now a.address bytes))
    c.in_ok-write.field-0 a.space.now c.write.new.space a.areas.now c.write.new.areas)
    (c.to_le_bytes-number.ensures ∙ ap (to_le_bytes w32) c.number.ensures)
    (c.in_ok-write.ensures.wrote (parts k) (are_those k a.areas.now calling.areas))) c.if-branch.false
    c.if-address-eq0.false c.refused.ensures.reply c.refused.ensures.effect
