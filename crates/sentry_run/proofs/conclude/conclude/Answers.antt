-- The outcome has the cause as it was concluded.
use Rattle.std.proofs.Common.{subst, sym}
use Rattle.kernel_model.specs.printed.Printed.{printed}
use Rattle.sentry_run.specs.declared.outcome.Fault.{Fault}
use Rattle.sentry_run.specs.Concluded.{Concludes}
use Rattle.sentry_run.specs.Sides.{side}
use Rattle.sentry_run.proofs.conclude.conclude.Goals as goal

pub returns-clause-concludes : goal.returns-clause-concludes
returns-clause-concludes g c =
    let after = c.concluded-fault.new.out in
    subst
    (λ (fault : Fault). Concludes c.args.played.end (λ k. printed k c.args.played.trace c.args.flag)
    (side (g.K.Sink.told c.args.out.now) (g.K.Sink.count c.args.out.now))
    (side (g.K.Sink.told after) (g.K.Sink.count after)) fault)
    (sym c.outcome.ensures.fault) c.concluded-fault.ensures.concludes
