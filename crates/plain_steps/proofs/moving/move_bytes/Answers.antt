-- A call whose reply is that of the entry moves its bytes, and its task goes on behind it.
use mir.Val.{SFits}
use mir.Syntax.{w64}
use Rattle.std.proofs.Common.{Some, ap, refl, sym, ◌∙◌, rules}
use Rattle.std.proofs.Math.Facts.{to_z-of_z}
use Rattle.std.proofs.lemmas.Bool.Decides.{Decides-int_eq}
use Rattle.guest_access.specs.Memories.{with_memory}
use Rattle.kernel_model.specs.declared.kernel.Kernel.{Kernel}
use Rattle.kernel_model.specs.declared.kernel.Part.TheVariants.{OfTask}
use Rattle.kernel_model.specs.entries.Parts.{put}
use Rattle.kernel_model.specs.machine.Registers.{replied}
use Rattle.plain_steps.proofs.CallLemmas.{call_done}
use Rattle.plain_steps.proofs.moving.move_bytes.Goals as goal

pub returns : goal.returns
returns c = λ changes told.
    let fits : SFits w64 c.args.value = search rules in
    let memory : Kernel = with_memory c.args.draft.now.caller c.args.draft.now.caller.space c.args.draft.now.areas
    c.args.kernel.now in
    let moved : Kernel = record memory {
      console = c.commit_transfer.new.console;
      files = c.commit_transfer.new.files;
    } in
    call_done c.args.kernel.now c.args.draft.now.caller c.args.value c.args.value changes c.put_memory.new.kernel
    c.go_on.new.kernel
    ((Decides-int_eq c.args.value c.args.value).1 refl)
    (told
    ∙ c.in_ok-commit_transfer.ensures.ok memory refl refl refl
    ∙ ap (λ a. record moved { areas = a }) (sym c.commit_transfer.ensures.kept)
    ∙ sym c.put_memory.ensures)
    (c.go_on.ensures
    ∙ ap (λ v. put (OfTask c.args.draft.now.caller.task) (Some (replied c.args.draft.now.caller.registers v))
    c.put_memory.new.kernel) (to_z-of_z fits))
