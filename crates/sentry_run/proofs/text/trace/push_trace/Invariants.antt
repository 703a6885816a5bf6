-- How far the lines of a trace are there.
use Rattle.std.proofs.Common.{◌≡◌, ◌++◌, take}
use Rattle.kernel_model.specs.printed.Printed.{trace_text}
use Rattle.sentry_run.proofs.text.trace.push_trace.Given as goal

-- the lines of the entries so far are there
abbrev pub invariant-loop-index : goal.invariant-loop-index
invariant-loop-index l = l.out.items ≡ l.initial.out.items ++ trace_text 1 (take l.index l.trace)
