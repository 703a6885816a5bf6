-- Paths and their parts, as a walk takes them: where they start, what ends them, and which can be no name.
use Rattle.std.specs.Prelude.{ℕ, nat_eq, nat_lt, List, [], ◌∷◌, length, Bool, false, ◌||◌, ◌==◌, Option, Some, None}
use Rattle.std.specs.Prelude.{◌-◌, slice_index_or, if◌then◌else◌, unwrap_or}
use Rattle.std.specs.Str.{bytes_eq}
use Rattle.sn_errno.specs.declared.errno.Errno.{Errno}
use Rattle.sn_errno.specs.declared.errno.Errno.TheVariants.{ENOENT, ENAMETOOLONG}
use Rattle.sn_text.specs.declared.fault.NameFault.{NameFault}
use Rattle.sn_text.specs.declared.fault.NameFault.TheVariants.{Empty, Long, Slash, Nul, Dot, Memory}
use Rattle.sn_text.specs.Names.{name_fault_of}
use Rattle.mount_tree.specs.Mounts.{Places, above, root_mount}
use Rattle.path_walk.specs.declared.node.NodeId.{NodeId}
use Rattle.path_walk.specs.declared.path.TheConstants.{PATH_MAX}

-- why a path, or the text of a link, leads nowhere: it is empty, or it and its NUL are above 4,096 bytes
-- path_resolution(7), ENOENT of an empty path; limits.h of Linux, PATH_MAX
abbrev pub path_error : List ℕ → Option Errno
path_error path =
    if nat_eq (length path) 0 then Some ENOENT
    else if nat_lt (length path) PATH_MAX then None
    else Some ENAMETOOLONG

-- why a part can be the name of nothing, from why it is no file name: above 255 bytes, or with a NUL
-- path_resolution(7), ENAMETOOLONG; a NUL in the text of a link: profile
abbrev pub name_error : Option NameFault → Option Errno
name_error None = None
name_error (Some Empty) = Some ENOENT
name_error (Some Long) = Some ENAMETOOLONG
name_error (Some Slash) = Some ENOENT
name_error (Some Nul) = Some ENOENT
name_error (Some Dot) = Some ENOENT
name_error (Some Memory) = Some ENOENT

-- why a part that is neither `.` nor `..` can be the name of nothing
-- path_resolution(7), ENAMETOOLONG
abbrev pub part_error : List ℕ → Option Errno
part_error part = name_error (name_fault_of part)

-- the part stands for the directory itself
-- POSIX.1-2017, Base Definitions, Dot
abbrev pub is_dot : List ℕ → Bool
is_dot part = bytes_eq part (46 ∷ [])

-- the part stands for the parent of the directory
-- POSIX.1-2017, Base Definitions, Dot-Dot
abbrev pub is_dot_dot : List ℕ → Bool
is_dot_dot part = bytes_eq part (46 ∷ 46 ∷ [])

-- the path begins with a slash
-- path_resolution(7), step 1
abbrev pub is_absolute : List ℕ → Bool
is_absolute [] = false
is_absolute (byte ∷ path) = nat_eq byte 47

-- the path ends with a slash
-- path_resolution(7), trailing slashes
abbrev pub ends_in_slash : List ℕ → Bool
ends_in_slash path = nat_eq (slice_index_or path (length path - 1) 0) 47

-- the root directory of a mount has the number of the mount
-- profile
abbrev pub root_of_mount : ℕ → NodeId
root_of_mount mount = record { mount = mount; ino = mount }

-- a node is the root directory of its mount
-- profile
abbrev pub is_mount_root : NodeId → Bool
is_mount_root node = node.ino == node.mount

-- the directory `/`
-- path_resolution(7), the root directory
abbrev pub root_directory : Places → NodeId
root_directory places = root_of_mount (unwrap_or (root_mount places) 0)

-- where `..` leads from the root directory of a mount
-- path_resolution(7), `.` and `..`
abbrev pub above_root : Places → NodeId → NodeId
above_root places dir = root_of_mount (unwrap_or (above places dir.mount) 0)

-- where a path starts that is read in a directory
-- path_resolution(7), step 1: an absolute one at the root directory
abbrev pub start_of : Places → (dir : NodeId) → (path : List ℕ) → NodeId
start_of places dir path = if is_absolute path then root_directory places else dir

-- whether a slash ends what is left once a text is in front of it
-- path_resolution(7), trailing slashes: that of a text counts where the text comes to be the end
abbrev pub slash_behind : (text : List ℕ) → (slash : Bool) → (rest : List (List ℕ)) → Bool
slash_behind text slash [] = slash || ends_in_slash text
slash_behind text slash (part ∷ rest) = slash
