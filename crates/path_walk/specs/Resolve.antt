-- The walk by a path, part by part.
use Rattle.std.specs.Prelude.{ℕ, zero, suc, List, [], ◌∷◌, ◌++◌, Bool, true, false, ◌&&◌, ◌||◌, not, Option, Some, None}
use Rattle.std.specs.Prelude.{if◌then◌else◌}
use Rattle.sn_errno.specs.declared.errno.Errno.{Errno}
use Rattle.sn_errno.specs.declared.errno.Errno.TheVariants.{ENOENT, ENOTDIR, EACCES, ELOOP}
use Rattle.sn_text.specs.Paths.{parts_of}
use Rattle.host_node.specs.declared.kind.Kind.{Kind}
use Rattle.host_node.specs.declared.kind.Kind.TheVariants.{Dir, File, Link}
use Rattle.mount_tree.specs.Mounts.{Places, crossed}
use Rattle.path_walk.specs.declared.node.NodeId.{NodeId}
use Rattle.path_walk.specs.declared.node.Want.{Want}
use Rattle.path_walk.specs.declared.node.Want.TheVariants.{Node as WantsNode, Parent as WantsParent, Make as WantsMake}
use Rattle.path_walk.specs.declared.node.NoName.TheVariants.{Dot, DotDot, Root}
use Rattle.path_walk.specs.declared.node.Found.TheVariants.{Node as FoundNode, Last as FoundLast, NoName as FoundNoName}
use Rattle.path_walk.specs.declared.path.TheConstants.{MOST_LINKS}
use Rattle.path_walk.specs.Parts.{path_error, part_error, is_dot, is_dot_dot, ends_in_slash, root_of_mount}
use Rattle.path_walk.specs.Parts.{is_mount_root, above_root, start_of, slash_behind}
use Rattle.path_walk.specs.Questions.{Walk, Finds, Refuses, Ends, AsksKind, AsksSearch, AsksChild, AsksParent, AsksText}

-- what stays through a walk: the mounts, what is wanted, and whether a link at the end is followed
-- path_resolution(7); open(2), O_NOFOLLOW
pub record Going : Type 0 where
  pub places : Places
  pub want : Want
  pub follow : Bool

abbrev pub is_dir : Kind → Bool
is_dir Dir = true
is_dir File = false
is_dir Link = false

abbrev pub is_link : Kind → Bool
is_link Dir = false
is_link File = false
is_link Link = true

abbrev pub wants_parent : Want → Bool
wants_parent WantsNode = false
wants_parent WantsParent = true
wants_parent WantsMake = false

abbrev pub wants_make : Want → Bool
wants_make WantsNode = false
wants_make WantsParent = false
wants_make WantsMake = true

abbrev pub is_end : List (List ℕ) → Bool
is_end [] = true
is_end (part ∷ rest) = false

-- a walk ends with an error, or goes on where there is none
-- errno(3)
abbrev pub unless_error : Option Errno → Walk → Walk
unless_error None next = next
unless_error (Some error) next = Ends (Refuses error)

-- the walk goes on where a node is a directory
-- path_resolution(7), ENOTDIR
abbrev pub in_directory : NodeId → Walk → Walk
in_directory node next = AsksKind node (λ kind. if is_dir kind then next else Ends (Refuses ENOTDIR))

-- the walk goes on where the owner of a directory may search it
-- path_resolution(7), EACCES
abbrev pub in_searched : NodeId → Walk → Walk
in_searched dir next = AsksSearch dir (λ may. if may then next else Ends (Refuses EACCES))

-- no part is left: the path names this node, which is a directory where a slash ends the path; and where its parent is
-- wanted it was one of slashes alone
-- path_resolution(7), trailing slashes
abbrev pub arrives : Going → NodeId → (slash : Bool) → Walk
arrives going here slash =
    if wants_parent going.want then Ends (Finds (FoundNoName Root))
    else if slash then in_directory here (Ends (Finds (FoundNode here)))
    else Ends (Finds (FoundNode here))

-- the last part, where the parent is wanted: it is not walked to
-- path_resolution(7), step 3: the final entry
abbrev pub last_part : NodeId → (part : List ℕ) → (slash : Bool) → Walk
last_part dir part slash =
    if is_dot part then Ends (Finds (FoundNoName Dot))
    else if is_dot_dot part then Ends (Finds (FoundNoName DotDot))
    else unless_error (part_error part) (Ends (Finds (FoundLast dir part slash)))

-- nothing is there under a name: at the end of the path it can be made, where that is wanted
-- path_resolution(7), ENOENT; open(2), O_CREAT
abbrev pub not_there : Going → NodeId → (part : List ℕ) → (slash at_end : Bool) → Walk
not_there going dir part slash at_end =
    if at_end && wants_make going.want then Ends (Finds (FoundLast dir part slash)) else Ends (Refuses ENOENT)

-- a node is there under a name: it is walked to, unless it is a link that is followed, by `onto`
-- path_resolution(7), step 2: a link that is not last; step 3: a last one where it is followed, or before a slash
abbrev pub is_there : Going → (onto : Walk) → (slash at_end : Bool) → (node : NodeId) → (next : NodeId → Walk) → Walk
is_there going onto slash at_end node next = AsksKind node (λ kind.
    if is_link kind && (not at_end || going.follow || slash) then onto else next node)

abbrev pub by_child : Going → (NodeId → Walk) → NodeId → (part : List ℕ) → (slash at_end : Bool) → Option NodeId →
    (next : NodeId → Walk) → Walk
by_child going onto dir part slash at_end None next = not_there going dir part slash at_end
by_child going onto dir part slash at_end (Some node) next = is_there going (onto node) slash at_end node next

-- the walk from a directory by a name: to the root of a mount that lies there, or to the child
-- path_resolution(7), mount points
abbrev pub by_name : Going → (onto : NodeId → Walk) → NodeId → (part : List ℕ) → (slash at_end : Bool) → Option ℕ →
    (next : NodeId → Walk) → Walk
by_name going onto dir part slash at_end (Some mount) next = next (root_of_mount mount)
by_name going onto dir part slash at_end None next =
    AsksChild dir part (λ found. by_child going onto dir part slash at_end found next)

abbrev pub mount_at : Places → NodeId → (part : List ℕ) → Option ℕ
mount_at places dir part = if is_mount_root dir then crossed places dir.mount part else None

-- the walk from a directory by `..`: to its parent, and from the root of a mount to `/`
-- path_resolution(7), `.` and `..`
abbrev pub by_dot_dot : Places → NodeId → (next : NodeId → Walk) → Walk
by_dot_dot places dir next =
    if is_mount_root dir then next (above_root places dir) else AsksParent dir next

-- the walk from a directory by a part
-- path_resolution(7), step 2
abbrev pub by_part : Going → (onto : NodeId → Walk) → NodeId → (part : List ℕ) → (slash at_end : Bool) →
    (next : NodeId → Walk) → Walk
by_part going onto dir part slash at_end next =
    if is_dot part then next dir
    else if is_dot_dot part then by_dot_dot going.places dir next
    else unless_error (part_error part)
    (by_name going onto dir part slash at_end (mount_at going.places dir part) next)

-- the walk from a directory by a part: its owner may search it; a last part whose directory is wanted is not walked to
-- path_resolution(7), steps 2 and 3
abbrev pub directory_part : Going → (onto : NodeId → Walk) → NodeId → (part : List ℕ) → (slash at_end : Bool) →
    (next : NodeId → Walk) → Walk
directory_part going onto dir part slash at_end next =
    if at_end && wants_parent going.want then last_part dir part slash
    else in_searched dir (by_part going onto dir part slash at_end next)

-- the walk from a node, which has to be a directory, by a part
-- path_resolution(7), ENOTDIR
abbrev pub walk_part : Going → (onto : NodeId → Walk) → NodeId → (part : List ℕ) → (slash at_end : Bool) →
    (next : NodeId → Walk) → Walk
walk_part going onto here part slash at_end next =
    in_directory here (directory_part going onto here part slash at_end next)

-- a link is followed: from its directory, the link, whether a slash ends the path, and the parts behind it
-- symlink(7)
abbrev pub Onto : Type 0
Onto = NodeId → NodeId → Bool → List (List ℕ) → Walk

-- the walk through the parts of a path from a node
-- path_resolution(7), steps 2 and 3
unfoldable pub walk_parts : Going → Onto → NodeId → (slash : Bool) → (parts : List (List ℕ)) → Walk
walk_parts going onto here slash [] = arrives going here slash
walk_parts going onto here slash (part ∷ rest) =
    walk_part going (λ link. onto here link slash rest) here part slash (is_end rest)
    (λ next. walk_parts going onto next slash rest)

-- the walk through the parts of a path, over so many links at most: the text of a link stands in its place
-- path_resolution(7), step 2 and ELOOP; symlink(7)
unfoldable pub walk_links : Going → (links : ℕ) → NodeId → (slash : Bool) → (parts : List (List ℕ)) → Walk
walk_links going zero here slash parts =
    walk_parts going (λ dir link slash rest. Ends (Refuses ELOOP)) here slash parts
walk_links going (suc links) here slash parts =
    walk_parts going (λ dir link slash rest. AsksText link (λ text. unless_error (path_error text)
    (walk_links going links (start_of going.places dir text) (slash_behind text slash rest)
    (parts_of text ++ rest)))) here slash parts

-- the walk by a path that is read in a directory
-- path_resolution(7)
abbrev pub walk_by_path : Going → (start : NodeId) → (path : List ℕ) → Walk
walk_by_path going start path = unless_error (path_error path)
    (walk_links going MOST_LINKS (start_of going.places start path) (ends_in_slash path) (parts_of path))
