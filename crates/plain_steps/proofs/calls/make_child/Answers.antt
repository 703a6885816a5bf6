-- A child is made, and its task goes on behind the call.
use mir.Val.{SFits, to_z}
use mir.Syntax.{w64}
use Rattle.std.proofs.Common.{◌+◌, pos, Some, refl, ap, sym, ◌∙◌, rules}
use Rattle.std.proofs.Math.Facts.{to_z-of_z}
use Rattle.std.proofs.lemmas.Bool.Decides.{Decides-int_eq}
use Rattle.kernel_calls.specs.Making.{with_new_child}
use Rattle.kernel_model.specs.declared.kernel.Kernel.{Kernel}
use Rattle.kernel_model.specs.declared.kernel.Part.TheVariants.{OfTask}
use Rattle.kernel_model.specs.entries.Parts.{put}
use Rattle.kernel_model.specs.machine.Registers.{replied}
use Rattle.plain_steps.proofs.CallLemmas.{call_done, caller_stays}
use Rattle.plain_steps.proofs.calls.make_child.Goals as goal

pub go_on-requires : goal.go_on-requires
go_on-requires c =
    caller_stays c.into_inner.result c.context-context.result.place c.args.caller.now c.args.kernel.now _
    (c.in_ok-make.ensures.ok c.args.caller.now c.args.kernel.now (sym c.context-context.ensures.task)
    (sym c.context-context.ensures.memory) (sym c.context-context.ensures.table) refl refl refl refl refl)
    c.requires.there.registers

pub returns : goal.returns
returns c = λ changes told.
    let after : Kernel = record c.args.kernel.now {
      tasks = c.make.new.tasks;
      registers = c.make.new.registers;
      spaces = c.make.new.spaces;
      areas = c.make.new.areas;
      files = c.make.new.files;
    } in
    let fits : SFits w64 c.next_number-number.result = search rules in
    call_done c.args.kernel.now c.args.caller.now c.args.reply (pos (c.args.kernel.now.tasks.last + 1)) changes after
    c.go_on.new.kernel
    ((Decides-int_eq c.args.reply (pos (c.args.kernel.now.tasks.last + 1))).1 (sym (to_z-of_z c.ranges.reply)
    ∙ ap (to_z w64) c.if-reply-number.false ∙ to_z-of_z fits ∙ c.next_number-number.ensures))
    (told
    ∙ ap (λ child. with_new_child child (c.args.kernel.now.entries + 1) c.args.caller.now c.args.kernel.now)
    (sym c.into_inner.ensures)
    ∙ ap (λ place. with_new_child c.into_inner.result place c.args.caller.now c.args.kernel.now)
    (sym c.context-context.ensures.place)
    ∙ c.in_ok-make.ensures.ok c.args.caller.now c.args.kernel.now (sym c.context-context.ensures.task)
    (sym c.context-context.ensures.memory) (sym c.context-context.ensures.table) refl refl refl refl refl)
    (c.go_on.ensures
    ∙ ap (λ v. put (OfTask c.args.caller.now.task) (Some (replied c.args.caller.now.registers v)) after)
    (to_z-of_z fits ∙ c.next_number-number.ensures))
