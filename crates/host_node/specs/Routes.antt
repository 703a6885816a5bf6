-- Where names lead from a node of a host's tree, and what may be put there.
use Rattle.std.specs.Prelude.{ℕ, List, [], ◌∷◌, Bool, true, ◌&&◌, not, Option, Some, None, if◌then◌else◌}
use Rattle.std.specs.Prelude.{option_and_then}
use Rattle.std.specs.Option.{option_map_or}
use Rattle.host_node.specs.Tree.{Shape, is_directory, is_lent, child_of, with_child, none_lent}

-- the node that names lead to from a node, through directories alone, or None
-- path_resolution(7); links are not followed
abbrev pub subtree : List (List ℕ) → Shape → Option Shape
subtree [] shape = Some shape
subtree (name ∷ names) shape = option_and_then (subtree names) (child_of name shape)

-- the tree with another in the place of the node that names lead to; with no such node, as it was
-- profile
abbrev pub put_subtree : List (List ℕ) → Shape → Shape → Shape
put_subtree [] new shape = new
put_subtree (name ∷ names) new shape =
    option_map_or (λ s. with_child name (put_subtree names new s) shape) (child_of name shape) shape

-- a directory that stands here, or None
-- inode(7), S_IFDIR
abbrev pub only_directory : Shape → Option Shape
only_directory shape = if is_directory shape then Some shape else None

-- the directory that names lead to, or None
-- path_resolution(7)
abbrev pub directory_at : List (List ℕ) → Shape → Option Shape
directory_at names shape = option_and_then only_directory (subtree names shape)

-- no node on the way to where names lead stands with a borrower, nor any below it
-- profile
abbrev pub is_way_free : List (List ℕ) → Shape → Bool
is_way_free [] shape = none_lent shape
is_way_free (name ∷ names) shape = not (is_lent shape) && option_map_or (is_way_free names) (child_of name shape) true
