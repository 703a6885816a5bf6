-- A call whose reply is that of the entry does its changes, and its task goes on behind it.
use mir.Val.{SFits, to_z}
use mir.Syntax.{w64}
use Rattle.std.proofs.Common.{Some, ap, sym, ◌∙◌, rules}
use Rattle.std.proofs.Math.Facts.{to_z-of_z}
use Rattle.std.proofs.lemmas.Bool.Decides.{Decides-int_eq}
use Rattle.kernel_model.specs.declared.kernel.Part.TheVariants.{OfTask}
use Rattle.kernel_model.specs.entries.Parts.{put}
use Rattle.kernel_model.specs.machine.Registers.{replied}
use Rattle.plain_steps.proofs.CallLemmas.{call_done}
use Rattle.plain_steps.proofs.calls.answer.Goals as goal

pub returns : goal.returns
returns c = λ changes told.
    let fits : SFits w64 c.args.prepared.reply = search rules in
    call_done c.args.kernel.now c.args.draft.now.caller c.args.reply c.args.prepared.reply changes c.settle.new.kernel
    c.go_on.new.kernel
    ((Decides-int_eq c.args.reply c.args.prepared.reply).1 (sym (to_z-of_z c.ranges.reply)
    ∙ ap (to_z w64) c.if-reply-prepared.false ∙ to_z-of_z fits)) (told ∙ sym c.settle.ensures.does)
    (c.go_on.ensures
    ∙ ap (λ v. put (OfTask c.args.draft.now.caller.task) (Some (replied c.args.draft.now.caller.registers v))
    c.settle.new.kernel)
    (to_z-of_z fits))
