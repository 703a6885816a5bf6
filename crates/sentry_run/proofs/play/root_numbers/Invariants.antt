-- The roots so far are numbered 1 up.
use Rattle.std.proofs.Common.{◌≡◌}
use Rattle.kernel_model.specs.files.Numbers.{count_up}
use Rattle.sentry_run.proofs.play.root_numbers.Given as goal

abbrev pub invariant-loop-index : goal.invariant-loop-index
invariant-loop-index l = l.roots ≡ count_up 1 l.index
