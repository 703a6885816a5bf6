-- A host's tree of files as data, and what is read from it or put into it.
use Rattle.std.specs.Prelude.{◌≢◌, ◌<◌, ℕ, List, [], ◌∷◌, length, Bool, true, false, ◌&&◌, Option, Some, None}
use Rattle.std.specs.Prelude.{if◌then◌else◌, is_some}
use Rattle.std.specs.Ordering.{nat_cmp, is_lt}
use Rattle.std.specs.Cmp.Lexicographic.{slice_cmp}
use Rattle.std.specs.Str.{bytes_eq}
use Rattle.std.specs.Option.{option_map_or}
use Rattle.host_node.specs.declared.kind.Kind.{Kind}
use Rattle.host_node.specs.declared.kind.Kind.TheVariants.{Dir, File, Link}
use Rattle.host_node.specs.declared.kind.Attr.{Attr}
use Rattle.host_node.specs.declared.listing.Listed.{Listed}

mutual
  -- a node and all that is below it; `faults` is the node's count of failed calls
  -- inode(7), The file type and mode; the count and `lent`: profile
  pub data Shape : Type 0 where
    -- a directory
    directory : (mode faults : ℕ) → Children → Shape
    -- a regular file, with what it holds
    file : (bytes : List ℕ) → (mode faults : ℕ) → Shape
    -- a symbolic link, with what it holds
    link : (text : List ℕ) → (faults : ℕ) → Shape
    -- a node that stands with its borrower: only its kind is told here
    lent : Kind → Shape

  -- the entries of a directory, in order
  -- readdir(3)
  pub data Children : Type 0 where
    no_children : Children
    child : (name : List ℕ) → Shape → Children → Children

-- what a node is
-- inode(7), The file type and mode
abbrev pub kind_of : Shape → Kind
kind_of (directory mode faults entries) = Dir
kind_of (file bytes mode faults) = File
kind_of (link text faults) = Link
kind_of (lent kind) = kind

-- the permission bits of a node; a link's are 0o777
-- inode(7), The file type and mode; symlink(7), Symbolic link ownership, permissions, and timestamps
abbrev pub permissions_of : Shape → ℕ
permissions_of (directory mode faults entries) = mode
permissions_of (file bytes mode faults) = mode
permissions_of (link text faults) = 511
permissions_of (lent kind) = 0

-- how many bytes a node holds: a file's, or a link's text
-- stat(2), st_size
abbrev pub size_of : Shape → ℕ
size_of (directory mode faults entries) = 0
size_of (file bytes mode faults) = length bytes
size_of (link text faults) = length text
size_of (lent kind) = 0

-- what is told of a node
-- stat(2)
abbrev pub attr_of : Shape → Attr
attr_of shape = record { kind = kind_of shape; mode = permissions_of shape; size = size_of shape }

-- how many calls of the node failed; of a node that is lent, its borrower has the count
-- profile
abbrev pub faults_of : Shape → ℕ
faults_of (directory mode faults entries) = faults
faults_of (file bytes mode faults) = faults
faults_of (link text faults) = faults
faults_of (lent kind) = 0

-- the node with another count of failed calls; one that is lent stays as it is
-- profile
abbrev pub with_faults : ℕ → Shape → Shape
with_faults n (directory mode faults entries) = directory mode n entries
with_faults n (file bytes mode faults) = file bytes mode n
with_faults n (link text faults) = link text n
with_faults n (lent kind) = lent kind

-- what a file holds; of another node, nothing
-- read(2)
abbrev pub file_bytes : Shape → List ℕ
file_bytes (directory mode faults entries) = []
file_bytes (file bytes mode faults) = bytes
file_bytes (link text faults) = []
file_bytes (lent kind) = []

-- the node stands with its borrower
-- profile
abbrev pub is_lent : Shape → Bool
is_lent (directory mode faults entries) = false
is_lent (file bytes mode faults) = false
is_lent (link text faults) = false
is_lent (lent kind) = true

-- the node stands here, and is a directory
-- inode(7), S_IFDIR
abbrev pub is_directory : Shape → Bool
is_directory (directory mode faults entries) = true
is_directory (file bytes mode faults) = false
is_directory (link text faults) = false
is_directory (lent kind) = false

-- the entries of a directory; of another node, none
-- readdir(3)
abbrev pub children_of : Shape → Children
children_of (directory mode faults entries) = entries
children_of (file bytes mode faults) = no_children
children_of (link text faults) = no_children
children_of (lent kind) = no_children

-- the directory with these entries in the place of its own; another node stays as it is
-- readdir(3)
abbrev pub with_children : Children → Shape → Shape
with_children entries (directory mode faults old) = directory mode faults entries
with_children entries (file bytes mode faults) = file bytes mode faults
with_children entries (link text faults) = link text faults
with_children entries (lent kind) = lent kind

-- what stands under a name, or None
-- path_resolution(7)
abbrev pub find_child : List ℕ → Children → Option Shape
find_child name no_children = None
find_child name (child other shape rest) = if bytes_eq name other then Some shape else find_child name rest

-- the entries with a node in the place of what stands under the name; with no such name, as they were
-- profile
abbrev pub replace_child : List ℕ → Shape → Children → Children
replace_child name new no_children = no_children
replace_child name new (child other shape rest) =
    if bytes_eq name other then child other new rest else child other shape (replace_child name new rest)

-- the entries with one more, before the first whose name is greater by its bytes
-- the order of strcmp(3), over unsigned bytes
abbrev pub insert_child : List ℕ → Shape → Children → Children
insert_child name new no_children = child name new no_children
insert_child name new (child other shape rest) =
    if is_lt (slice_cmp nat_cmp name other) then child name new (child other shape rest)
    else child other shape (insert_child name new rest)

-- the entries with a node under a name: in the place of what stands there, or else one more, in order
-- profile
abbrev pub put_child : List ℕ → Shape → Children → Children
put_child name new entries =
    if is_some (find_child name entries) then replace_child name new entries else insert_child name new entries

-- what stands under a name of a directory, or None; under one of another node, None
-- path_resolution(7)
abbrev pub child_of : List ℕ → Shape → Option Shape
child_of name shape = find_child name (children_of shape)

-- the directory with a node under a name; another node stays as it is
-- profile
abbrev pub with_child : List ℕ → Shape → Shape → Shape
with_child name new shape = with_children (put_child name new (children_of shape)) shape

-- the entries with what stands under a name left to a borrower, where something stands there
-- gVisor package lisafs, Walk; profile
abbrev pub lend_in : List ℕ → Children → Children
lend_in name entries =
    option_map_or (λ s. replace_child name (lent (kind_of s)) entries) (find_child name entries) entries

-- the directory with what stands under a name left to a borrower; another node stays as it is
-- gVisor package lisafs, Walk; profile
abbrev pub lend_child : List ℕ → Shape → Shape
lend_child name shape = with_children (lend_in name (children_of shape)) shape

-- the names and kinds of a directory's entries, in order
-- readdir(3), d_name and d_type
abbrev pub listed_from : Children → List Listed
listed_from no_children = []
listed_from (child name shape rest) = record { name = name; kind = kind_of shape } ∷ listed_from rest

-- the names and kinds of a node's entries, in order
-- readdir(3), d_name and d_type
abbrev pub listing_of : Shape → List Listed
listing_of shape = listed_from (children_of shape)

-- a node has bytes or entries, which its copy needs memory for
-- profile
abbrev pub HoldsSome : Shape → Type 0
HoldsSome (directory mode faults entries) = entries ≢ no_children
HoldsSome (file bytes mode faults) = 0 < length bytes
HoldsSome (link text faults) = 0 < length text
HoldsSome (lent kind) = ⊥

abbrev mutual
  -- nothing in a tree stands with a borrower
  -- profile
  pub none_lent : Shape → Bool
  none_lent (directory mode faults entries) = none_lent_in entries
  none_lent (file bytes mode faults) = true
  none_lent (link text faults) = true
  none_lent (lent kind) = false

  -- nothing in these entries stands with a borrower
  -- profile
  pub none_lent_in : Children → Bool
  none_lent_in no_children = true
  none_lent_in (child name shape rest) = none_lent shape && none_lent_in rest
