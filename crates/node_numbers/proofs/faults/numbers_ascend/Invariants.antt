-- Fresh numbers ascend as far as those that are left do.
use Rattle.std.proofs.Common.{◌≡◌, drop}
use Rattle.kernel_model.specs.entries.Given.{ascend_from, numbers_of}
use Rattle.node_numbers.proofs.faults.numbers_ascend.Given as goal

abbrev pub invariant-loop-one : goal.invariant-loop-one
invariant-loop-one l =
    ascend_from l.last (numbers_of (drop l.one-index l.fresh)) ≡ ascend_from 0 (numbers_of l.fresh)
