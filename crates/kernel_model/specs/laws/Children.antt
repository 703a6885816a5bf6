-- The children that have no number, and those that an entry numbers.
use Rattle.std.specs.Prelude.{◌≡◌, ℕ, ◌==◌, nat_le, List, [], Bool, ◌&&◌, Option, Some}
use Rattle.std.specs.List.{list_any}
use Rattle.std.specs.Str.{bytes_eq}
use Rattle.host_node.specs.Tree.{Shape}
use Rattle.kernel_model.specs.declared.limits.TheConstants.{LAST_NUMBER}
use Rattle.kernel_model.specs.declared.entry.Entry.{Entry}
use Rattle.kernel_model.specs.declared.entry.Entry.TheVariants.{Run, Call, Sleep, End}
use Rattle.kernel_model.specs.declared.kernel.Node.{Node}
use Rattle.kernel_model.specs.declared.opening.Fresh.{Fresh}
use Rattle.kernel_model.specs.files.FileTree.{Unnumbered, child_at}

-- the node of a directory is there, and has under a name a child of that shape without a number
-- inode(7), st_ino
abbrev pub HasUnnumbered : List ℕ → Shape → Option Node → Type 0
HasUnnumbered name shape directory =
    (node : Node) × (directory ≡ Some node) × (child_at name node ≡ Unnumbered shape)

-- the fresh numbers that an entry draws
-- inode(7), st_ino
abbrev pub fresh_of : Entry → List Fresh
fresh_of (Run task n) = []
fresh_of (Call task call args given reply) = given.fresh
fresh_of (Sleep task) = []
fresh_of (End task signal) = []

-- a fresh number is given to the child of that directory and name; one above the greatest is given to no child
-- inode(7), st_ino; profile
abbrev pub is_given_to : (dir : ℕ) → (name : List ℕ) → Fresh → Bool
is_given_to dir name f = nat_le f.ino LAST_NUMBER && (f.dir == dir) && bytes_eq name f.name

-- an entry gives a number to the child of that directory and name
-- inode(7), st_ino
abbrev pub numbers_child : Entry → (dir : ℕ) → (name : List ℕ) → Bool
numbers_child e dir name = list_any (is_given_to dir name) (fresh_of e)
