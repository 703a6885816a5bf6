-- Each round does one more entry, or meets one that is no step.
use Rattle.std.proofs.Common.{◌≡◌, ap, sym, ◌∙◌, arith}
use Rattle.std.specs.Prelude.{Option, Some, None, unwrap_or}
use Rattle.kernel_model.specs.declared.kernel.Kernel.{Kernel}
use Rattle.kernel_model.specs.entries.Steps.{step}
use Rattle.run_replay.proofs.Histories.{replay_next, step_is, step_is-none, one_more}
use Rattle.run_replay.proofs.replays.fitting.Goals as goal

pub returns-then-not-branch : goal.returns-then-not-branch
returns-then-not-branch c =
    let before = c.loop-index.plain.kernel in
    let entry = c.index-trace-index.result in
    let none : step before entry ≡ None =
    step_is-none (step before entry) (sym c.in_ok-step.ensures.fits ∙ c.if-not-branch.true) in
    let stays : c.step.new.self.kernel ≡ before =
    c.in_ok-step.ensures.ok ∙ ap (λ (o : Option Kernel). unwrap_or o before) none in
    record {
      within = omega arith;
      leads = c.loop-index.invariant.leads ∙ ap Some (sym stays);
      stops = λ h. replay_next c.args.plain.now.kernel before c.args.trace.now c.loop-index.index entry h
          c.index-trace-index.is c.loop-index.invariant.leads ∙ none;
    }

pub loop-index-preserved : goal.loop-index-preserved
loop-index-preserved c =
    let before = c.loop-index.plain.kernel in
    let after = c.step.new.self.kernel in
    let entry = c.index-trace-index.result in
    let some : step before entry ≡ Some after =
    step_is before after (step before entry) (sym c.in_ok-step.ensures.fits ∙ c.if-not-branch.false)
    c.in_ok-step.ensures.ok in
    record {
      leads = replay_next c.args.plain.now.kernel before c.args.trace.now c.loop-index.index entry
          c.loop-index-test.true c.index-trace-index.is c.loop-index.invariant.leads ∙ some;
      made = omega (arith, one_more before after entry some, c.loop-index.invariant.made);
    }
