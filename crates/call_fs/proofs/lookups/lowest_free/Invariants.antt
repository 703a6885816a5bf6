-- The lowest free number from here on is the one that is looked for.
use Rattle.std.proofs.Common.{◌≡◌}
use Rattle.kernel_model.specs.calls.Lookups.{lowest_free}
use Rattle.call_fs.proofs.lookups.lowest_free.Given as goal

abbrev pub invariant-loop-number : goal.invariant-loop-number
invariant-loop-number l = lowest_free l.numbers l.number ≡ lowest_free l.numbers l.from
