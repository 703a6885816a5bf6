-- How deep directories may still be nested, in three steps a directory; and what stays through its entries.
use Rattle.std.proofs.Common.{◌≡◌, ◌+◌, ◌*◌, true, None}
use Rattle.host_node.specs.Tree.{is_directory, none_lent}
use Rattle.host_copy.proofs.nodes.+below.Given as goal

abbrev pub decreases-copied_node : goal.decreases-copied_node
decreases-copied_node g l = 3 * l.deep + 2

abbrev pub decreases-copied_directory : goal.decreases-copied_directory
decreases-copied_directory g l = 3 * l.deep + 1

abbrev pub decreases-copied_child : goal.decreases-copied_child
decreases-copied_child g l = 3 * l.deep + 3

abbrev pub invariant-copied_directory-loop-entry : goal.invariant-copied_directory-loop-entry
invariant-copied_directory-loop-entry g l = record {
  silent : g.N.HostNode.told l.node ≡ None;
  directory : is_directory l.tree ≡ true;
  free : none_lent l.tree ≡ true;
}
