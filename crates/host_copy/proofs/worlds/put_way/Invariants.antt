-- Nothing is lent.
use Rattle.std.proofs.Common.{◌≡◌, true}
use Rattle.host_node.specs.Tree.{none_lent}
use Rattle.host_copy.proofs.worlds.put_way.Given as goal

abbrev pub invariant-loop-count : goal.invariant-loop-count
invariant-loop-count l = none_lent l.world.tree ≡ true
