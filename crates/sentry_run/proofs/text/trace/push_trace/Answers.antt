-- Each round adds the line of the next entry.
use Rattle.sentry_run.proofs.Lines.{grown, trace_text_next}
use Rattle.sentry_run.proofs.text.trace.push_trace.Goals as goal

pub loop-index-preserved : goal.loop-index-preserved
loop-index-preserved c =
    grown _ _ _ _ _ _ c.in_ok-push_entry.ensures c.loop-index.invariant
    (trace_text_next 1 c.args.trace.now c.loop-index.index c.index-trace-index.result c.loop-index-test.true
    c.index-trace-index.is)
