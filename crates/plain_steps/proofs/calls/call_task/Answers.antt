-- What is done over copies of the areas is done over the kernel that was copied.
use Rattle.kernel_model.specs.calls.Callers.{context_of}
use Rattle.kernel_model.specs.declared.kernel.Kernel.{Kernel}
use Rattle.kernel_model.specs.entries.Parts.{outcome_in, parts}
use Rattle.kernel_model.specs.entries.Steps.{call_entry}
use Rattle.plain_steps.proofs.RunLemmas.{does_over}
use Rattle.plain_steps.proofs.calls.call_task.Goals as goal

pub returns : goal.returns
returns c =
    does_over c.args.kernel.now c.copied_areas.new.kernel c.call_over.new.kernel
    (λ (m : Kernel). outcome_in (parts m) (call_entry (context_of m) c.args.caller c.args.call.now.no
    c.args.call.now.args.now c.args.call.now.reply c.args.call.now.given.now)) c.call_over.result
    c.copied_areas.ensures.kept c.call_over.ensures
