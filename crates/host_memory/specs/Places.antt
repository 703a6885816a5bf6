-- Where a tree is put in a host in memory, and when it can't be.
use Rattle.std.specs.Prelude.{◌≡◌, ℕ, List, [], ◌∷◌, Option, Some, None, is_some, is_none, if◌then◌else◌}
use Rattle.std.specs.Option.{option_map_or}
use Rattle.host_node.specs.Tree.{Shape, with_child}
use Rattle.host_node.specs.Routes.{subtree, put_subtree, directory_at}
use Rattle.host_memory.specs.declared.places.PutErr.{PutErr}
use Rattle.host_memory.specs.declared.places.PutErr.TheVariants.{NoParent, Taken, Memory}

-- the names that lead to the directory of where names lead: all but the last
-- path_resolution(7), path prefix
abbrev pub way_of : List (List ℕ) → List (List ℕ)
way_of [] = []
way_of (name ∷ []) = []
way_of (name ∷ next ∷ names) = name ∷ way_of (next ∷ names)

-- the last of the names
-- path_resolution(7), final entry
abbrev pub last_of : List (List ℕ) → List ℕ
last_of [] = []
last_of (name ∷ []) = name
last_of (name ∷ next ∷ names) = last_of (next ∷ names)

-- the directory that the names but the last lead to, or None
-- path_resolution(7)
abbrev pub parent_directory : List (List ℕ) → Shape → Option Shape
parent_directory names shape = directory_at (way_of names) shape

-- the tree with another under the last name of the directory that the names before it lead to
-- profile
abbrev pub put_under : List (List ℕ) → Shape → Shape → Shape
put_under names new shape =
    option_map_or (λ parent. put_subtree (way_of names) (with_child (last_of names) new parent) shape)
    (parent_directory names shape) shape

-- why nothing can be put where names lead, if so: no directory is there for it, or something is there already
-- mkdir(2), ENOENT, ENOTDIR and EEXIST; order of errors: profile
abbrev pub put_fault : List (List ℕ) → Shape → Option PutErr
put_fault names shape =
    if is_none (parent_directory names shape) then Some NoParent
    else if is_some (subtree names shape) then Some Taken
    else None

-- what a refusal may tell: why nothing can be put there, or want of memory where something can
-- mkdir(2), ERRORS; malloc(3), ENOMEM
abbrev pub IsPutFaultOf : List (List ℕ) → Shape → PutErr → Type 0
IsPutFaultOf names shape Memory = put_fault names shape ≡ None
IsPutFaultOf names shape fault = put_fault names shape ≡ Some fault
