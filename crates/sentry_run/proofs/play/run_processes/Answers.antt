-- Processes run from the kernel that is told at their opening.
use Rattle.std.proofs.Common.{List, sym, subst}
use Rattle.std.specs.Prelude.{IfSome}
use Rattle.image_walk.specs.Granted.{told_of}
use Rattle.kernel_model.specs.declared.entry.Entry.{Entry}
use Rattle.run_opening.specs.Told.{kernel_told, trees_told}
use Rattle.sentry_run.specs.Played.{RanFrom, TraceOf}
use Rattle.sentry_run.proofs.RunsOfTurns.{ended_trace, ran_told}
use Rattle.sentry_run.proofs.play.run_processes.Goals as goal

pub returns-clause-ran : goal.returns-clause-ran
returns-clause-ran g c = λ others.
    let m = c.args.mounts.now in
    let e = c.run_turns-ran.ensures in
    let told = g.N.HostNode.told in
    let f = trees_told others (told c.args.granted.now.root) (told_of told c.args.granted.now.lent.items) in
    subst (λ (es : List Entry). IfSome (kernel_told m f c.args.processes 0)
    (λ k. RanFrom m f k c.finished.result.end es)) (sym c.finished.ensures.trace)
    (ran_told m f c.as_slice.result.now c.args.processes c.run_turns-ran.result.processes
    c.run_turns-ran.result.trace c.finished.result.end (sym c.as_slice.ensures) e.history e.state e.whole e.bound
    e.ended c.finished.ensures.end)

pub returns-clause-trace : goal.returns-clause-trace
returns-clause-trace g c =
    subst (λ (es : List Entry). TraceOf c.args.mounts.now.entries c.finished.result.end es)
    (sym c.finished.ensures.trace)
    (ended_trace c.args.mounts.now.entries c.run_turns-ran.result.processes c.run_turns-ran.result.trace
    c.finished.result.end c.run_turns-ran.ensures.bound c.finished.ensures.end)
