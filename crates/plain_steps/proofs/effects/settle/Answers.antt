-- An effect is that of a state whose memory is as it was left.
use Rattle.std.proofs.Common.{refl, sym, ◌∙◌}
use Rattle.guest_access.specs.Memories.{with_memory}
use Rattle.kernel_model.specs.declared.kernel.Kernel.{Kernel}
use Rattle.plain_steps.proofs.effects.settle.Goals as goal

pub returns-clause-does : goal.returns-clause-does
returns-clause-does c =
    let memory : Kernel = with_memory c.args.draft.now.caller c.args.draft.now.caller.space c.args.draft.now.areas
    c.args.kernel.now in
    c.put_memory.ensures ∙ sym (c.commit.ensures memory refl refl refl)
