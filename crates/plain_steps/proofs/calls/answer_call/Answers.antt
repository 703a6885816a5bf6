-- A call that met nothing does what it comes to where it drew no number.
use mir.Val.{SFits, to_z, of_z}
use mir.Syntax.{w64}
use Rattle.std.proofs.Common.{ap, refl, sym, ◌∙◌, rules}
use Rattle.std.specs.Prelude.{not}
use Rattle.std.proofs.Math.Facts.{to_z-of_z}
use Rattle.kernel_model.specs.calls.Callers.{context_of}
use Rattle.kernel_model.specs.calls.Table.{call_row}
use Rattle.node_numbers.proofs.FaultLemmas.{has_any_not}
use Rattle.plain_steps.proofs.CallLemmas.{call_that_comes, call_that_draws, finished, memory_stays}
use Rattle.plain_steps.proofs.calls.answer_call.Goals as goal

pub returns-then-not-is_empty : goal.returns-then-not-is_empty
returns-then-not-is_empty c = (
  call_that_draws c.args.kernel.now c.args.draft.now.caller
      (call_row (context_of c.args.kernel.now) c.args.draft.now.caller c.args.call.now.no c.args.call.now.args.now)
      c.in_ok-called.called
      c.prepare.new.draft.caller.space c.prepare.new.draft.areas c.in_ok-called.ensures.row c.args.call.now.reply
      c.args.call.now.given.now
      (has_any_not c.args.call.now.given.now.fresh c.is_empty.result c.is_empty.ensures ∙ ap not
      c.if-not-is_empty.true),
  refl,
)

pub finish-requires-clause-space : goal.finish-requires-clause-space
finish-requires-clause-space c = λ apart.
    memory_stays c.args.kernel.now c.args.draft.now.caller c.prepare.new.draft.caller c.in_ok-called.ensures.kept
    (c.in_ok-called.ensures.apart apart).0 c.requires.space

pub finish-requires-clause-areas : goal.finish-requires-clause-areas
finish-requires-clause-areas c = λ apart. c.requires.areas ∙ sym (c.in_ok-called.ensures.apart apart).1

pub returns : goal.returns
returns c =
    let fits : SFits w64 c.args.call.now.reply = search rules in
    call_that_comes c.args.kernel.now c.args.draft.now.caller
    (call_row (context_of c.args.kernel.now) c.args.draft.now.caller c.args.call.now.no c.args.call.now.args.now)
    c.in_ok-called.called
    c.prepare.new.draft.caller.space c.prepare.new.draft.areas c.in_ok-called.ensures.row c.args.call.now.reply
    c.args.call.now.given.now
    (has_any_not c.args.call.now.given.now.fresh c.is_empty.result c.is_empty.ensures ∙ ap not c.if-not-is_empty.false)
    c.finish.new.kernel c.finish.result (to_z w64 (of_z w64 c.args.call.now.reply)) (to_z-of_z fits)
    (finished c.args.kernel.now c.finish.new.kernel
    (call_row (context_of c.args.kernel.now) c.args.draft.now.caller c.args.call.now.no c.args.call.now.args.now)
    c.in_ok-called.called c.args.draft.now.caller c.prepare.new.draft.caller c.prepare.new.draft.areas
    (to_z w64 (of_z w64 c.args.call.now.reply)) c.finish.result c.in_ok-called.ensures.kept
    (λ apart. (c.in_ok-called.ensures.apart apart).0) c.in_ok-called.ensures.row c.finish.ensures)
