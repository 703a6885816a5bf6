-- A task that is not on the futex list has ahead of it what is found over a draft of it.
use Rattle.std.proofs.Common.{ap, sym, ◌∙◌}
use Rattle.kernel_model.specs.calls.Callers.{context_of}
use Rattle.kernel_model.specs.declared.kernel.Kernel.{Kernel}
use Rattle.kernel_model.specs.entries.Parts.{outcome_in, parts}
use Rattle.kernel_model.specs.entries.Waiting.{Awake}
use Rattle.plain_steps.specs.Ahead.{ahead_in_row}
use Rattle.plain_steps.proofs.AheadLemmas.{by_waiting, told_for}
use Rattle.plain_steps.proofs.RowLemmas.{awake_so}
use Rattle.plain_steps.proofs.ahead.ahead_of.Goals as goal

pub returns-clause-told : goal.returns-clause-told
returns-clause-told c =
    told_for c.ahead_over.result _ _
    (ap (λ (k : Kernel). outcome_in (parts k) (ahead_in_row (context_of k) c.args.caller)) c.copied_areas.ensures.kept
    ∙ by_waiting c.args.caller c.args.kernel.now Awake
    (awake_so c.args.kernel.now.sleepers c.args.caller.task (sym c.is_asleep.ensures.asleep
    ∙ c.if-is_asleep.false) (sym c.is_woken.ensures.woken ∙ c.if-is_woken.false)))
    c.ahead_over.ensures
