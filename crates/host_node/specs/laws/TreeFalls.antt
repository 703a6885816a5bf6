-- Each entry of a directory has fewer entries below it than the directory.
use Rattle.std.specs.Prelude.{◌≤◌, List, [], ◌∷◌, max}
use Rattle.std.proofs.Common.{arith}
use denote.Param.Weighed.{most}
use Rattle.host_node.specs.declared.tree.TreeEntry.{TreeEntry}
use Rattle.host_node.specs.declared.tree.Node.{Node}
use Rattle.host_node.specs.declared.tree.Node.TheVariants.{Directory, File, Link, Lent}
use Rattle.host_node.specs.declared.tree.Tree.TheDeep.{deep-Node, deep-TreeEntry}
use Rattle.host_node.specs.Levels.{shape_of, children_from}
use Rattle.host_node.specs.laws.TreeSize.{weight, weight_of_entries}

-- no entry is deeper than all of them together
pub most_le-weight : (es : List TreeEntry) → most deep-TreeEntry es ≤ weight_of_entries (children_from es)
most_le-weight [] = omega arith
most_le-weight (e ∷ es) = omega (arith, most_le-weight es)

-- no entry is deeper than its directory has entries
pub deep_le-weight : (n : Node) → max (deep-Node n) 0 ≤ weight (shape_of n)
deep_le-weight (Directory mode faults entries) = omega (arith, most_le-weight entries.items)
deep_le-weight (File bytes mode faults) = omega arith
deep_le-weight (Link text faults) = omega arith
deep_le-weight (Lent kind) = omega arith
