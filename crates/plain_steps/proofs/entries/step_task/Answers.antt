-- What is done over copies of the areas is done over the kernel that was copied.
use Rattle.kernel_model.specs.entries.Steps.{step_row}
use Rattle.kernel_model.specs.declared.kernel.Kernel.{Kernel}
use Rattle.kernel_model.specs.entries.Parts.{outcome_in, parts}
use Rattle.plain_steps.proofs.RunLemmas.{does_over}
use Rattle.plain_steps.proofs.entries.step_task.Goals as goal

pub returns : goal.returns
returns c =
    does_over c.args.kernel.now c.copied_areas.new.kernel c.step_over.new.kernel
    (λ (m : Kernel). outcome_in (parts m) (step_row c.args.caller)) c.step_over.result
    c.copied_areas.ensures.kept c.step_over.ensures
