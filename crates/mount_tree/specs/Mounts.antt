-- Where mounts lie, which of them is met at a name, and which above a root.
use Rattle.std.specs.Prelude.{◌≡◌, ℕ, suc, ◌==◌, Bool, false, List, length, filter, position, Option, None, is_none}
use Rattle.std.specs.Prelude.{option_map, if◌then◌else◌}
use Rattle.std.specs.Option.{option_map_or}
use Rattle.std.specs.Str.{bytes_eq}

-- the mount points, in the order of the mounts: None is the directory `/`, and a name that name in it
-- mount(2); that mounts lie in `/` alone: profile
abbrev pub Places : Type 0
Places = List (Option (List ℕ))

-- just one of the mounts lies at `/`
-- path_resolution(7): every process has one root directory; in a mount file: profile
abbrev pub HasOneRoot : Places → Type 0
HasOneRoot places = length (filter is_none places) ≡ 1

-- the number of the first mount whose mount point passes a test; mounts count from 1
-- profile
abbrev pub first_mount : (Option (List ℕ) → Bool) → Places → Option ℕ
first_mount test places = option_map suc (position test places)

-- the mount at `/`
-- path_resolution(7): the root directory
abbrev pub root_mount : Places → Option ℕ
root_mount places = first_mount is_none places

-- whether a mount lies at a name in `/`
-- mount(2)
abbrev pub is_at_name : List ℕ → Option (List ℕ) → Bool
is_at_name name place = option_map_or (bytes_eq name) place false

-- whether a mount is that at `/`
-- path_resolution(7): the root directory
abbrev pub is_root_mount : Places → (mount : ℕ) → Bool
is_root_mount places mount = option_map_or (λ root. root == mount) (root_mount places) false

-- the mount whose root a walk comes to by a name in the root of a mount, where that name is a mount point
-- path_resolution(7), mount points: the walk goes on at the root of the mounted file system
abbrev pub crossed : Places → (mount : ℕ) → (name : List ℕ) → Option ℕ
crossed places mount name =
    if is_root_mount places mount then first_mount (is_at_name name) places else None

-- the mount to whose root `..` leads from the root of a mount: all mount points lie in `/`, and `/` is its own parent
-- path_resolution(7), `.` and `..`: the parent of the root directory is the root directory
abbrev pub above : Places → (mount : ℕ) → Option ℕ
above places mount = root_mount places
