-- Each round adds the next argument.
use Rattle.std.proofs.Common.{[], ◌∷◌}
use Rattle.kernel_model.specs.printed.Printed.{argument_text}
use Rattle.sentry_run.proofs.Lines.{grown, flat_map_next}
use Rattle.sentry_run.proofs.text.trace.push_arguments.Goals as goal

pub loop-argument-preserved : goal.loop-argument-preserved
loop-argument-preserved c =
    let a = c.args.args.now in
    grown _ _ _ _ _ _ c.in_ok-push_argument.ensures c.loop-argument.invariant
    (flat_map_next argument_text (a.a0 ∷ a.a1 ∷ a.a2 ∷ a.a3 ∷ a.a4 ∷ a.a5 ∷ []) c.loop-argument.argument-index
    0 c.loop-argument-test.true)
