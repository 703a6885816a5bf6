-- What has become of a call is done as its row says.
use mir.Val.{SFits, to_z, of_z}
use mir.Syntax.{w64}
use Rattle.std.proofs.Common.{Ok, false, ap, sym, ◌∙◌, rules}
use Rattle.std.proofs.Math.Facts.{to_z-of_z}
use Rattle.call_fs.specs.declared.call_end.CallEnd.TheVariants.{Of}
use Rattle.plain_steps.proofs.CallLemmas.{finish_makes, finish_moves, finish_pipe, finish_refused, finish_replies}
use Rattle.plain_steps.proofs.calls.finish.Goals as goal

pub returns-in-Replies : goal.returns-in-Replies
returns-in-Replies c =
    finish_replies c.args.kernel.now c.answer.new.kernel c.args.draft.now.caller c.args.draft.now.areas
    (to_z w64 (of_z w64 c.args.reply)) c.args.reply (to_z-of_z c.ranges.reply) (Ok c.answer.result) c.args.called
    c.in-Replies.prepared (c.in-Of.is ∙ ap Of c.in-Replies.is) c.answer.ensures

pub returns-in-Makes : goal.returns-in-Makes
returns-in-Makes c =
    finish_makes c.args.kernel.now c.make_child.new.kernel c.args.draft.now.caller c.args.draft.now.areas
    (to_z w64 (of_z w64 c.args.reply)) c.args.reply (to_z-of_z c.ranges.reply) c.make_child.result c.args.called
    c.in-Makes.child (c.in-Of.is ∙ ap Of c.in-Makes.is) c.make_child.ensures

pub returns-then-reply-value : goal.returns-then-reply-value
returns-then-reply-value c =
    finish_refused c.args.kernel.now c.args.kernel.now c.args.draft.now.caller c.args.draft.now.areas
    (to_z w64 (of_z w64 c.args.reply)) c.args.reply (to_z-of_z c.ranges.reply) (Ok false) c.args.called
    c.in-Moves.value c.in-Moves.transfer c.in-Moves.is (λ e. c.if-reply-value.true (ap (of_z w64) e))

pub returns-else-reply-value : goal.returns-else-reply-value
returns-else-reply-value c =
    let fits : SFits w64 c.in-Moves.value = search rules in
    finish_moves c.args.kernel.now c.move_bytes.new.kernel c.args.draft.now.caller c.args.draft.now.areas
    (to_z w64 (of_z w64 c.args.reply)) c.args.reply (to_z-of_z c.ranges.reply) c.move_bytes.result c.args.called
    c.in-Moves.value (to_z w64 (of_z w64 c.in-Moves.value)) c.in-Moves.transfer c.in-Moves.is (to_z-of_z fits)
    (sym (to_z-of_z c.ranges.reply) ∙ ap (to_z w64) c.if-reply-value.false ∙ to_z-of_z fits)
    c.move_bytes.ensures

pub returns-in-MakesPipe : goal.returns-in-MakesPipe
returns-in-MakesPipe c =
    finish_pipe c.args.kernel.now c.open_pipe.new.kernel c.args.draft.now.caller c.args.draft.now.areas
    (to_z w64 (of_z w64 c.args.reply)) c.args.reply (to_z-of_z c.ranges.reply) c.open_pipe.result c.args.called
    c.in-MakesPipe.pipe c.in-MakesPipe.is c.open_pipe.ensures
