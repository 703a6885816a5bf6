-- A pipe is made where the reply of the entry is 0, and its task goes on behind the call.
use Rattle.std.proofs.Common.{pos, ap, refl, sym, ◌∙◌}
use Rattle.std.specs.Ordering.{int_eq}
use Rattle.std.proofs.Math.Facts.{to_z-of_z}
use Rattle.guest_access.specs.Memories.{with_memory}
use Rattle.kernel_model.specs.declared.kernel.Kernel.{Kernel}
use Rattle.kernel_model.specs.calls.Callers.{context_of}
use Rattle.plain_steps.proofs.PipeLemmas.{pipe_opened, pipe_refused}
use Rattle.plain_steps.proofs.moving.open_pipe.Goals as goal

pub returns-then-not-is_zero : goal.returns-then-not-is_zero
returns-then-not-is_zero c = λ row makes. (
  pipe_refused c.args.draft.now.caller c.args.kernel.now c.args.new c.args.reply row makes
      (ap (λ z. int_eq z (pos 0)) (sym (to_z-of_z c.ranges.reply)) ∙ sym c.is_zero.ensures ∙ c.if-not-is_zero.true),
  refl,
)

pub returns : goal.returns
returns c =
    let k : Kernel = c.args.kernel.now in
    let made : Kernel = with_memory c.args.draft.now.caller c.make_pipe.new.space c.make_pipe.new.areas
    (record k { files = c.make_pipe.new.files }) in
    pipe_opened c.args.draft.now.caller k c.args.new c.into_inner.result c.args.reply made c.put_memory.new.kernel
    c.go_on.new.kernel c.into_inner.ensures
    (λ row makes. c.in_ok-make_pipe.ensures.ok row c.args.draft.now.caller k _ (context_of k) makes
    (sym c.context-context.ensures.place)
    (record {
      task = sym c.context-context.ensures.task;
      table = sym c.context-context.ensures.table;
      memory = record { space = refl; there = c.requires.space; areas = c.requires.areas };
      files = refl;
      console = refl;
    }))
    (ap (λ z. int_eq z (pos 0)) (sym (to_z-of_z c.ranges.reply)) ∙ sym c.is_zero.ensures ∙ c.if-not-is_zero.false)
    (sym c.put_memory.ensures) c.go_on.ensures
