-- How far the arguments of a call are there.
use Rattle.std.proofs.Common.{◌≡◌, ◌++◌, take}
use Rattle.std.specs.List.{flat_map}
use Rattle.kernel_model.specs.printed.Printed.{argument_text}
use Rattle.sentry_run.proofs.text.trace.push_arguments.Given as goal

-- the arguments so far are there
abbrev pub invariant-loop-argument : goal.invariant-loop-argument
invariant-loop-argument l =
    l.out.items ≡ l.initial.out.items ++ flat_map argument_text (take l.argument-index l.argument-items)
