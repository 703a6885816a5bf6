-- The nodes of rises ascend as far as those that are left do.
use Rattle.std.proofs.Common.{◌≡◌, drop}
use Rattle.kernel_model.specs.entries.Given.{ascend_from, nodes_of}
use Rattle.node_numbers.proofs.faults.nodes_ascend.Given as goal

abbrev pub invariant-loop-rise : goal.invariant-loop-rise
invariant-loop-rise l =
    ascend_from l.last (nodes_of (drop l.rise-index l.rises)) ≡ ascend_from 0 (nodes_of l.rises)
