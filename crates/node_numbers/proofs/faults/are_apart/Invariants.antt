-- Children have one number each as far as those that are left do.
use Rattle.std.proofs.Common.{◌≡◌, drop}
use Rattle.kernel_model.specs.entries.Given.{are_apart}
use Rattle.node_numbers.proofs.faults.are_apart.Given as goal

abbrev pub invariant-loop-index : goal.invariant-loop-index
invariant-loop-index l = are_apart (drop l.index l.fresh) ≡ are_apart l.fresh
