-- A run that stopped before so many instructions does not fit, but as one that runs with the areas that it touches.
use Rattle.std.proofs.Common.{◌≡◌, None, refl, ap, sym, ◌∙◌, subst}
use Rattle.std.proofs.lemmas.Bool.{ne_eqb}
use Rattle.guest_access.proofs.Runs.{alone_short, nothing_ran, row_by_step, row_none}
use Rattle.kernel_model.specs.declared.caller.Caller.{Caller}
use Rattle.kernel_model.specs.entries.Parts.{outcome_in, parts}
use Rattle.kernel_model.specs.entries.Steps.{run_alone, step_row}
use Rattle.kernel_model.specs.machine.Spaces.{going_in}
use Rattle.plain_steps.proofs.RunLemmas.{none_ran, same_caller}
use Rattle.plain_steps.specs.Doing.{Does}
use Rattle.plain_steps.proofs.entries.run_task.Goals as goal

pub returns-then-n-ne1 : goal.returns-then-n-ne1
returns-then-n-ne1 c =
    let alone : run_alone c.args.n c.args.caller ≡ None =
    alone_short c.args.n c.args.caller c.run.new.space c.run.new.registers c.in_ok-ran.ran.count
    c.in_ok-ran.ran.next c.in_ok-ran.ensures.steps c.in_ok-ran.ensures.stopped c.if-ran-n.false in (
      row_none c.args.n c.args.caller alone (parts c.args.kernel.now) (ne_eqb c.args.n 1 c.if-n-ne1.true),
      refl,
    )

pub step_task-requires-clause-alone : goal.step_task-requires-clause-alone
step_task-requires-clause-alone c =
    let alone : run_alone c.args.n c.args.caller ≡ None =
    alone_short c.args.n c.args.caller c.run.new.space c.run.new.registers c.in_ok-ran.ran.count
    c.in_ok-ran.ran.next c.in_ok-ran.ensures.steps c.in_ok-ran.ensures.stopped c.if-ran-n.false in
    let same : going_in c.args.caller.task c.run.new.space c.run.new.registers
    ≡ going_in c.args.caller.task c.args.caller.space c.args.caller.registers =
    nothing_ran c.in_ok-ran.ran.count _ _ c.in_ok-ran.ensures.steps
    (none_ran c.in_ok-ran.ran.count c.args.n c.in_ok-ran.ensures.within c.if-ran-n.false c.if-n-ne1.false) in
    ap (run_alone 1) (same_caller c.args.caller c.run.new.registers c.run.new.space same)
    ∙ ap (λ n. run_alone n c.args.caller) (sym c.if-n-ne1.false) ∙ alone

pub returns : goal.returns
returns c =
    let alone : run_alone c.args.n c.args.caller ≡ None =
    alone_short c.args.n c.args.caller c.run.new.space c.run.new.registers c.in_ok-ran.ran.count
    c.in_ok-ran.ran.next c.in_ok-ran.ensures.steps c.in_ok-ran.ensures.stopped c.if-ran-n.false in
    let same : going_in c.args.caller.task c.run.new.space c.run.new.registers
    ≡ going_in c.args.caller.task c.args.caller.space c.args.caller.registers =
    nothing_ran c.in_ok-ran.ran.count _ _ c.in_ok-ran.ensures.steps
    (none_ran c.in_ok-ran.ran.count c.args.n c.in_ok-ran.ensures.within c.if-ran-n.false c.if-n-ne1.false) in
    subst (λ o. Does o c.args.kernel.now c.step_task.new.kernel c.step_task.result)
    (ap (λ (x : Caller). outcome_in (parts c.args.kernel.now) (step_row x))
    (same_caller c.args.caller c.run.new.registers c.run.new.space same)
    ∙ sym (row_by_step c.args.n c.args.caller alone (parts c.args.kernel.now) c.if-n-ne1.false)) c.step_task.ensures
