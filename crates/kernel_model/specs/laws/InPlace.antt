-- Steps done in place: the kernel that changes leave, told without the changes.
use Rattle.std.specs.Prelude.{◌≡◌, List, [], ◌∷◌, Option, Some, None, if◌then◌else◌, option_map}
use Rattle.std.specs.Prelude.{option_and_then}
use Rattle.std.specs.FinMap as map
use Rattle.host_node.specs.Tree.{Shape, child_of}
use Rattle.kernel_model.specs.declared.kernel.Kernel.{Kernel}
use Rattle.kernel_model.specs.declared.kernel.Node.{Node}
use Rattle.kernel_model.specs.declared.opening.Fresh.{Fresh}
use Rattle.kernel_model.specs.files.FileTree.{number_in}
use Rattle.kernel_model.specs.entries.Given.{Nodes_so_far, is_unused, number_at, node_changes}
use Rattle.kernel_model.specs.entries.Parts.{parts, Prog, outcome_in, Change, changed}

-- the kernel that a piece leaves
-- profile
abbrev pub kernel_left : Prog (List Change) → Kernel → Kernel
kernel_left piece k = changed (outcome_in (parts k) piece) k

-- the kernel after changes, or None where there are none to do
-- profile
abbrev pub changed_by : Option (List Change) → Kernel → Option Kernel
changed_by changes k = option_map (λ cs. changed cs k) changes

-- the kernel in which each of these fresh numbers has its node, or None where one does not fit
-- inode(7), st_ino; profile
abbrev pub with_nodes : Nodes_so_far → Kernel → Kernel
with_nodes nodes k = changed (node_changes nodes) k

abbrev pub nodes_for : Fresh → Kernel → Option Nodes_so_far
nodes_for f k = if is_unused k.nodes f then number_at [] f (map.get k.nodes f.dir) else None

unfoldable pub numbered : List Fresh → Kernel → Option Kernel
numbered [] k = Some k
numbered (f ∷ fresh) k = option_and_then (λ nodes. numbered fresh (with_nodes nodes k)) (nodes_for f k)

-- a child waits in a directory for its number: it is there without one, and the number is free
-- inode(7), st_ino; profile
pub record IsWaiting (f : Fresh) (k : Kernel) (dir : Node) (shape : Shape) : Type 0 where
  pub directory : map.get k.nodes f.dir ≡ Some dir
  pub unnumbered_yet : number_in f.name dir.numbers ≡ None
  pub there : child_of f.name dir.tree ≡ Some shape
  pub free : map.get k.nodes f.ino ≡ None

-- some child waits so
-- profile
abbrev pub Waits : Fresh → Kernel → Type 0
Waits f k = (dir : Node) × (shape : Shape) × IsWaiting f k dir shape
