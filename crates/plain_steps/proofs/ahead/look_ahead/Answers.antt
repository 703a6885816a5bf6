-- Who is found has ahead what its live task has.
use Rattle.std.proofs.Common.{Some, ap, sym, ◌∙◌}
use Rattle.kernel_model.specs.calls.Callers.{context_of}
use Rattle.kernel_model.specs.declared.kernel.Kernel.{Kernel}
use Rattle.kernel_model.specs.entries.Parts.{outcome_in, parts}
use Rattle.kernel_model.specs.entries.Waiting.{wait_of}
use Rattle.plain_steps.specs.Ahead.{ahead_of}
use Rattle.plain_steps.proofs.AheadLemmas.{found_has, told_for}
use Rattle.plain_steps.proofs.ahead.look_ahead.Goals as goal

pub returns-clause-told : goal.returns-clause-told
returns-clause-told c =
    told_for c.ahead_of.result _ _
    (ap (λ (k : Kernel). outcome_in (parts k) (ahead_of (context_of k) c.in-Some.caller
    (wait_of k.sleepers c.in-Some.caller.task))) c.caller.ensures.kept
    ∙ sym
    (found_has c.args.kernel.now c.args.task (Some c.in-Some.caller) (c.in_ok-caller.ensures.caller ∙ c.in-Some.is)))
    c.ahead_of.ensures.told
