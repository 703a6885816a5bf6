-- What is done over copies of the areas is done over the kernel that was copied.
use Rattle.kernel_model.specs.calls.Callers.{context_of}
use Rattle.kernel_model.specs.entries.Steps.{sleep_row}
use Rattle.kernel_model.specs.declared.kernel.Kernel.{Kernel}
use Rattle.kernel_model.specs.entries.Parts.{outcome_in, parts}
use Rattle.plain_steps.proofs.RunLemmas.{does_over}
use Rattle.plain_steps.proofs.waiting.sleep_task.Goals as goal

pub returns : goal.returns
returns c =
    does_over c.args.kernel.now c.copied_areas.new.kernel c.sleep_over.new.kernel
    (λ (m : Kernel). outcome_in (parts m) (sleep_row (context_of m) c.args.caller)) c.sleep_over.result
    c.copied_areas.ensures.kept c.sleep_over.ensures
