-- What a node in memory is seen as, and what each of them keeps.
use Rattle.std.specs.Prelude.{◌≤◌, ℕ, List, [], ◌∷◌, length, Bool, ⊤}
use Rattle.std.specs.Ordering.{nat_cmp, is_lt}
use Rattle.std.specs.Cmp.Lexicographic.{slice_cmp}
use Rattle.std.specs.Str.{bytes_eq}
use Rattle.host_node.specs.declared.tree.TreeEntry.{TreeEntry}
use Rattle.host_node.specs.declared.tree.TheConstants.{LONGEST_LINK}
use Rattle.host_node.specs.declared.tree.Node.{Node}
use Rattle.host_node.specs.declared.tree.Node.TheVariants.{Directory, File, Link, Lent}
use Rattle.host_node.specs.Tree.{Shape, Children, directory, file, link, lent, no_children, child}
use Rattle.host_node.specs.Order.{IsAscending}

-- the entries of a directory in memory, in order
-- profile
abbrev pub children_from : List TreeEntry → Children
children_from [] = no_children
children_from (entry ∷ entries) = child entry.name entry.tree (children_from entries)

-- one node in memory
-- profile
abbrev pub shape_of : Node → Shape
shape_of (Directory mode faults entries) = directory mode faults (children_from entries.items)
shape_of (File bytes mode faults) = file bytes mode faults
shape_of (Link text faults) = link text faults
shape_of (Lent kind) = lent kind

-- the names of a directory's entries in memory, in order
-- profile
abbrev pub entry_names : List TreeEntry → List (List ℕ)
entry_names [] = []
entry_names (entry ∷ entries) = entry.name ∷ entry_names entries

-- permission bits, a link's text that is not too long, and entries in the order of their names
-- inode(7), The file type and mode; the limit: profile
abbrev pub IsSound : Node → Type 0
IsSound (Directory mode faults entries) = (mode ≤ 511) × IsAscending (entry_names entries.items)
IsSound (File bytes mode faults) = mode ≤ 511
IsSound (Link text faults) = length text ≤ LONGEST_LINK
IsSound (Lent kind) = ⊤

-- the entry has the name
-- path_resolution(7)
abbrev pub has_name : List ℕ → TreeEntry → Bool
has_name name entry = bytes_eq name entry.name

-- the name comes before the entry's
-- the order of strcmp(3), over unsigned bytes
abbrev pub comes_before : List ℕ → TreeEntry → Bool
comes_before name entry = is_lt (slice_cmp nat_cmp name entry.name)
