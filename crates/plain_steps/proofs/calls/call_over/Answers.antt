-- A call does what it comes to where it met nothing, and else leaves what it met and fails.
use mir.Val.{SFits, to_z, of_z}
use mir.Syntax.{w64}
use Rattle.std.proofs.Common.{ap, sym, refl, ◌∙◌, rules}
use Rattle.std.specs.Prelude.{not}
use Rattle.std.proofs.Math.Facts.{to_z-of_z}
use Rattle.plain_steps.proofs.CallLemmas.{call_answered, call_elsewhere, call_in_disorder, call_that_fails}
use Rattle.plain_steps.proofs.CallLemmas.{drawn_unused, memory_there}
use Rattle.node_numbers.proofs.FaultLemmas.{has_any_not}
use Rattle.plain_steps.proofs.calls.call_over.Goals as goal

pub returns-then-not-branch : goal.returns-then-not-branch
returns-then-not-branch c =
    call_elsewhere c.args.kernel.now c.args.draft.now.caller c.args.call.now.no c.args.call.now.args.now
    c.args.call.now.reply c.args.call.now.given.now
    (sym (c.in_ok-stands_at.ensures.stands c.args.kernel.now c.requires.areas) ∙ c.if-not-branch.true)

pub returns-then-not-is_in_order : goal.returns-then-not-is_in_order
returns-then-not-is_in_order c =
    call_in_disorder c.args.kernel.now c.args.draft.now.caller c.stands_at.new.draft.caller
    (c.in_ok-stands_at.ensures.kept c.if-not-branch.false) c.args.call.now.no c.args.call.now.args.now
    c.args.call.now.reply c.args.call.now.reply refl
    c.args.call.now.given.now
    (sym (c.in_ok-stands_at.ensures.stands c.args.kernel.now c.requires.areas) ∙ c.if-not-branch.false)
    (sym c.is_in_order.ensures ∙ c.if-not-is_in_order.true)

pub failing-requires-clause-unused : goal.failing-requires-clause-unused
failing-requires-clause-unused c =
    drawn_unused c.args.kernel.now c.args.call.now.given.now c.requires.may
    (sym c.is_in_order.ensures ∙ c.if-not-is_in_order.false)

pub returns-then-not-is_empty : goal.returns-then-not-is_empty
returns-then-not-is_empty c =
    let fits : SFits w64 c.args.call.now.reply = search rules in
    call_that_fails c.args.kernel.now c.args.draft.now.caller c.stands_at.new.draft.caller
    (c.in_ok-stands_at.ensures.kept c.if-not-branch.false) c.args.call.now.no c.args.call.now.args.now
    c.args.call.now.reply
    (to_z w64 (of_z w64 c.args.call.now.reply)) (to_z-of_z fits) c.args.call.now.given.now
    (sym (c.in_ok-stands_at.ensures.stands c.args.kernel.now c.requires.areas) ∙ c.if-not-branch.false)
    (sym c.is_in_order.ensures ∙ c.if-not-is_in_order.false)
    (has_any_not c.args.call.now.given.now.rises c.is_empty.result c.is_empty.ensures ∙ ap not c.if-not-is_empty.true)
    c.failing.new.kernel c.failing.result c.failing.ensures

pub answer_call-requires-clause-space : goal.answer_call-requires-clause-space
answer_call-requires-clause-space c =
    memory_there c.args.kernel.now c.args.draft.now.caller c.stands_at.new.draft.caller
    (c.in_ok-stands_at.ensures.kept c.if-not-branch.false) c.requires.space

pub answer_call-requires-clause-areas : goal.answer_call-requires-clause-areas
answer_call-requires-clause-areas c =
    c.requires.areas ∙ sym (c.in_ok-stands_at.ensures.kept_areas c.if-not-branch.false)

pub returns : goal.returns
returns c =
    call_answered c.args.kernel.now c.args.draft.now.caller c.stands_at.new.draft.caller
    (c.in_ok-stands_at.ensures.kept c.if-not-branch.false) c.args.call.now.no c.args.call.now.args.now
    c.args.call.now.reply
    c.args.call.now.reply refl c.args.call.now.given.now
    (sym (c.in_ok-stands_at.ensures.stands c.args.kernel.now c.requires.areas) ∙ c.if-not-branch.false)
    (sym c.is_in_order.ensures ∙ c.if-not-is_in_order.false)
    (has_any_not c.args.call.now.given.now.rises c.is_empty.result c.is_empty.ensures ∙ ap not c.if-not-is_empty.false)
    c.answer_call.new.kernel c.answer_call.result c.answer_call.ensures
