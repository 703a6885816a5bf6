use Rattle.std.proofs.Common.{◌≡◌, take}
use Rattle.host_node.specs.Tree.{listed_from}
use Rattle.host_node.specs.Levels.{children_from}
use Rattle.host_node.proofs.tree.listings.list_entries.Given as goal

abbrev pub invariant-loop-entry : goal.invariant-loop-entry
invariant-loop-entry l = l.listing ≡ listed_from (children_from (take l.entry-index l.entries))
