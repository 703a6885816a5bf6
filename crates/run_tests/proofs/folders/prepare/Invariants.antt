-- The host has nothing lent.
use Rattle.std.proofs.Common.{◌≡◌, true}
use Rattle.host_node.specs.Tree.{none_lent}
use Rattle.run_tests.proofs.folders.prepare.Given as goal

abbrev pub invariant-loop-names : goal.invariant-loop-names
invariant-loop-names l = none_lent l.world.tree ≡ true
