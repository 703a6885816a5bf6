use Rattle.std.proofs.Common.{◌≡◌, ◌+◌, ◌*◌, take}
use Rattle.host_node.specs.Levels.{children_from}
use Rattle.host_node.specs.laws.TreeSize.{weight, weight_of_entries}
use Rattle.host_node.proofs.tree.+copies.Given as goal

abbrev pub decreases-Tree::copy : goal.decreases-Tree::copy
decreases-Tree::copy l = 2 * weight l.self.now + 1

abbrev pub decreases-copies::copy_entries : goal.decreases-copies::copy_entries
decreases-copies::copy_entries l = 2 * weight_of_entries (children_from l.entries.now)

abbrev pub invariant-copies::copy_entries-loop-entry : goal.invariant-copies::copy_entries-loop-entry
invariant-copies::copy_entries-loop-entry l = l.copies.items ≡ take l.entry-index l.entries
