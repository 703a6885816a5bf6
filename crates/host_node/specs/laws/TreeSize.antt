-- How many entries a host's tree has, by which a recursion over it ends.
use Rattle.std.specs.Prelude.{◌+◌, ℕ}
use Rattle.host_node.specs.Tree.{Shape, Children, directory, file, link, lent, no_children, child}

abbrev mutual
  -- how many entries the directories of a tree have
  -- profile
  pub weight : Shape → ℕ
  weight (directory mode faults entries) = weight_of_entries entries
  weight (file bytes mode faults) = 0
  weight (link text faults) = 0
  weight (lent kind) = 0

  -- how many entries these are, with all that is below them
  -- profile
  pub weight_of_entries : Children → ℕ
  weight_of_entries no_children = 0
  weight_of_entries (child name shape rest) = weight shape + weight_of_entries rest + 1
