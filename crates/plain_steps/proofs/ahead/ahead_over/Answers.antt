-- A task has ahead of it what its next instruction does.
use Rattle.std.proofs.Common.{refl, ap, sym, ◌∙◌}
use Rattle.kernel_model.specs.calls.Callers.{context_of}
use Rattle.kernel_model.specs.declared.caller.Caller.{Caller}
use Rattle.kernel_model.specs.declared.kernel.Kernel.{Kernel}
use Rattle.kernel_model.specs.declared.traps.Next.TheVariants.{Calls}
use Rattle.kernel_model.specs.entries.Parts.{outcome_in, parts}
use Rattle.kernel_model.specs.machine.Instructions.{goes_on}
use Rattle.plain_steps.specs.Ahead.{ahead_at}
use Rattle.plain_steps.proofs.AheadLemmas.{ahead_is, told_for}
use Rattle.plain_steps.proofs.RunLemmas.{same_task}
use Rattle.plain_steps.proofs.ahead.ahead_over.Goals as goal

pub returns-in-Goes : goal.returns-in-Goes
returns-in-Goes c =
    sym
    (ahead_is c.args.draft.now.caller c.args.kernel.now _
    (c.in_ok-step.ensures.next c.args.draft.now.caller c.args.kernel.now
    (record { task = refl; registers = refl; space = refl; areas = c.requires.areas })
    ∙ c.in-Goes.is))

pub returns-in-Calls : goal.returns-in-Calls
returns-in-Calls c =
    let k : Kernel = c.args.kernel.now in
    told_for c.ahead_in.result _ _
    (ap (λ (x : Caller). outcome_in (parts k) (ahead_at (context_of k) x Calls))
    (same_task c.args.draft.now.caller c.step.new.registers c.step.new.space
    (c.in_ok-step.ensures.kept (ap goes_on c.in-Calls.is)).0
    (c.in_ok-step.ensures.kept (ap goes_on c.in-Calls.is)).1)
    ∙ sym
    (ahead_is c.args.draft.now.caller k Calls
    (c.in_ok-step.ensures.next c.args.draft.now.caller k
    (record { task = refl; registers = refl; space = refl; areas = c.requires.areas })
    ∙ c.in-Calls.is)))
    c.ahead_in.ensures

pub returns-in-Traps : goal.returns-in-Traps
returns-in-Traps c =
    sym
    (ahead_is c.args.draft.now.caller c.args.kernel.now _
    (c.in_ok-step.ensures.next c.args.draft.now.caller c.args.kernel.now
    (record { task = refl; registers = refl; space = refl; areas = c.requires.areas })
    ∙ c.in-Traps.is))
