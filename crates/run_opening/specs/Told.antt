-- The kernel that a run's state stands for: its processes, with the nodes that its granted folders tell.
use Rattle.std.specs.Prelude.{ℕ, ◌+◌, List, [], ◌∷◌, Option, Some, None, option_and_then, option_map, true}
use Rattle.std.specs.Prelude.{if◌then◌else◌}
use Rattle.std.specs.FinMap as map
use Rattle.host_node.specs.Tree.{Shape, child_of, is_lent}
use Rattle.mount_file.specs.declared.mounts.Mounts.{Mounts}
use Rattle.kernel_model.specs.declared.kernel.Kernel.{Kernel}
use Rattle.kernel_model.specs.declared.kernel.Node.{Node}
use Rattle.kernel_model.specs.files.FileTree.{Nodes, child_node}
use Rattle.kernel_model.specs.opening.Opening.{rooted}
use Rattle.image_walk.specs.declared.granted.Numbering.{Numbering}
use Rattle.image_walk.specs.Granted.{LentChild}
use Rattle.image_walk.specs.Standing.{numbers_from}
use Rattle.call_table.specs.declared.processes.Processes.{Processes}
use Rattle.call_table.specs.Processes.{kernel_of_processes}
use Rattle.run_opening.specs.Openings.{beside_of, numbering_of}
use Rattle.run_opening.specs.Trees.{Others, trees_with}

-- what the granted folders of a run tell: the trees of the other mounts, as granted; the root of the mount at `/`; and
-- the children that it lent, in order
-- profile
pub record TreesTold : Type 0 where
  pub others : Others
  pub root : Option Shape
  pub children : List LentChild

abbrev pub trees_told : Others → (root : Option Shape) → List LentChild → TreesTold
trees_told others root children = record { others = others; root = root; children = children }

-- what a lent child tells, where a place in the root is left to it
-- profile
abbrev pub told_at : (place told : Option Shape) → Option Shape
told_at None told = None
told_at (Some place) told = if is_lent place then told else None

abbrev pub lent_told : (root : Shape) → LentChild → Option Shape
lent_told root c = told_at (child_of c.0 root) c.1

-- nodes with those of children that the directory of a number lent, numbered in order from the second number on: none
-- where a child tells nothing, or no place is left to it
-- inode(7), st_ino
abbrev pub with_lent : (dir number : ℕ) → (root : Shape) → List LentChild → Nodes → Option Nodes
with_lent dir number root [] nodes = Some nodes
with_lent dir number root (c ∷ children) nodes =
    option_and_then (λ s. with_lent dir (number + 1) root children (map.insert nodes number (child_node dir s)))
    (lent_told root c)

-- the node of the root that lent these children
-- inode(7), st_ino
abbrev pub lent_names : List LentChild → List (List ℕ)
lent_names [] = []
lent_names (c ∷ children) = c.0 ∷ lent_names children

abbrev pub root_told : Numbering → (root : Shape) → List LentChild → Node
root_told num root children = record {
  parent = num.root;
  linked = true;
  tree = root;
  numbers = numbers_from num.first (lent_names children);
}

-- the nodes that are told: the roots of all mounts, and the children that the mount at `/` lent. None where its root
-- or a child tells nothing, or no place in the root is left to a child
-- inode(7), st_ino
abbrev pub roots_told : Numbering → Others → (root : Shape) → List LentChild → Nodes
roots_told num others root children =
    map.insert (rooted 1 (trees_with others root)) num.root (root_told num root children)

abbrev pub nodes_told : Numbering → TreesTold → Option Nodes
nodes_told num f =
    option_and_then (λ root. with_lent num.root num.first root f.children (roots_told num f.others root f.children))
    f.root

-- the kernel that processes are with the nodes that are told, after so many entries and with no rise of a count
-- profile
abbrev pub kernel_told : Mounts → TreesTold → Processes → (entries : ℕ) → Option Kernel
kernel_told m f p entries =
    option_map (λ nodes. kernel_of_processes p (beside_of m nodes) entries) (nodes_told (numbering_of m.mounts) f)
