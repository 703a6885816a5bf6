-- What is made, by the flags.
use Rattle.std.proofs.Common.{ap, sym, ◌∙◌}
use Rattle.std.proofs.lemmas.Result.{IfOk-weaker}
use Rattle.kernel_model.specs.calls.Clone.{is_process}
use Rattle.kernel_calls.proofs.Clones.{makes_process, makes_thread}
use Rattle.kernel_calls.proofs.clone.made.Goals as goal

pub returns-then-is_process-clause-made : goal.returns-then-is_process-clause-made
returns-then-is_process-clause-made c =
    let a = c.args in
    IfOk-weaker c.process.result _ _ (λ child makes caller k list waiting console calling registers next free shape.
    makes_process caller k a.args.now child
    (ap is_process (sym c.flags_of.ensures) ∙ sym c.is_process.ensures ∙ c.if-is_process.true)
    (makes caller k list waiting console calling registers next free)) c.process.ensures.made

pub returns-else-is_process-clause-made : goal.returns-else-is_process-clause-made
returns-else-is_process-clause-made c =
    let a = c.args in
    IfOk-weaker c.thread.result _ _ (λ child makes caller k list waiting console calling registers next free shape.
    makes_thread caller k a.args.now child
    (ap is_process (sym c.flags_of.ensures) ∙ sym c.is_process.ensures ∙ c.if-is_process.false) shape
    (makes caller k list waiting console calling registers next free)) c.thread.ensures.made
