-- The file tree: nodes by inode number. A child that has a number of its own stands as lent in its directory.
use Rattle.std.specs.Prelude.{ℕ, zero, suc, ◌/◌, ◌%◌, ◌==◌, List, [], ◌∷◌, ◌++◌, Bool, true, Option, Some, None}
use Rattle.std.specs.Prelude.{if◌then◌else◌, option_map}
use Rattle.std.specs.Ordering.{nat_cmp}
use Rattle.std.specs.Str.{bytes_eq}
use Rattle.std.specs.FinMap as map
use Rattle.host_node.specs.Tree.{Shape, permissions_of, faults_of, with_faults, child_of, with_child, lend_child}
use Rattle.kernel_model.specs.declared.kernel.Node.{Node}
use Rattle.kernel_model.specs.declared.kernel.Numbered.{Numbered}

-- the nodes that have a number
-- inode(7), st_ino
abbrev pub Nodes : Type 0
Nodes = map.FinMap nat_cmp Node

-- the number that a directory's list has for a name
-- readdir(3), d_ino
abbrev pub number_in : List ℕ → List Numbered → Option ℕ
number_in name [] = None
number_in name (entry ∷ entries) = if bytes_eq name entry.name then Some entry.ino else number_in name entries

-- what a directory has under a name: nothing, a node with a number, or one without, as it was granted
-- path_resolution(7)
pub data Child : Type 0 where
  Missing : Child
  Known : (ino : ℕ) → Child
  Unnumbered : Shape → Child

abbrev pub unnumbered : Option Shape → Child
unnumbered None = Missing
unnumbered (Some shape) = Unnumbered shape

abbrev pub known : Option ℕ → Option Shape → Child
known (Some ino) child = Known ino
known None child = unnumbered child

abbrev pub child_at : List ℕ → Node → Child
child_at name node = known (number_in name node.numbers) (child_of name node.tree)

-- the root of a mount; its parent is itself
-- path_resolution(7): `..` of a root
abbrev pub root_node : ℕ → Shape → Node
root_node ino shape = record { parent = ino; linked = true; tree = shape; numbers = [] }

-- a node that gets its number
-- inode(7), st_ino
abbrev pub child_node : ℕ → Shape → Node
child_node dir shape = record { parent = dir; linked = true; tree = shape; numbers = [] }

-- its directory after that
-- inode(7), st_ino
abbrev pub numbered_in : Node → List ℕ → ℕ → Node
numbered_in dir name ino = record {
  parent = dir.parent;
  linked = dir.linked;
  tree = lend_child name dir.tree;
  numbers = dir.numbers ++ record { name = name; ino = ino } ∷ [];
}

-- the owner may search a directory, or execute a file
-- inode(7), S_IXUSR 0100
abbrev pub owner_executes : Shape → Bool
owner_executes shape = permissions_of shape / 64 % 2 == 1

-- a child that has a number, back in its place
-- inode(7)
abbrev pub with_plain : List ℕ → Option Shape → Shape → Shape
with_plain name None shape = shape
with_plain name (Some child) shape = with_child name child shape

abbrev pub put_back : (ℕ → Option Shape) → List Numbered → Shape → Shape
put_back plain_of [] shape = shape
put_back plain_of (entry ∷ entries) shape = put_back plain_of entries (with_plain entry.name (plain_of entry.ino) shape)

-- the tree of a node: what it holds, with its count of faults as it is now and its numbered children in their places
-- inode(7)
abbrev pub plain_node : (ℕ → Option Shape) → (ℕ → ℕ → ℕ) → ℕ → Node → Shape
plain_node plain_of count ino node =
    put_back plain_of node.numbers (with_faults (count ino (faults_of node.tree)) node.tree)

-- the tree of the node of a number, without numbers; `count` gives its count of faults by its number and the count as
-- it was granted. At most 65,536 nodes have numbers, so that no path through them is longer
-- inode(7)
unfoldable pub plain : ℕ → (ℕ → ℕ → ℕ) → Nodes → ℕ → Option Shape
plain zero count nodes ino = None
plain (suc depth) count nodes ino = option_map (plain_node (plain depth count nodes) count ino) (map.get nodes ino)
