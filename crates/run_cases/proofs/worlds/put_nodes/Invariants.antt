-- The host has nothing lent.
use Rattle.std.proofs.Common.{◌≡◌, true}
use Rattle.host_node.specs.Tree.{none_lent}
use Rattle.run_cases.proofs.worlds.put_nodes.Given as goal

abbrev pub invariant-loop-node : goal.invariant-loop-node
invariant-loop-node l = none_lent l.world.tree ≡ true
