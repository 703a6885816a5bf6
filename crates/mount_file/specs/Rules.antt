-- The rules of the mounts and tasks of one mount file together. Where no source is named: profile.
use Rattle.std.specs.Prelude.{ℕ, nat_lt, List, [], ◌∷◌, length, Bool, true, false, ◌||◌, not, Option, Some, None}
use Rattle.std.specs.Prelude.{is_none, if◌then◌else◌}
use Rattle.std.specs.List.{list_any, starts_with}
use Rattle.std.specs.Str.{bytes_eq}
use Rattle.mount_file.specs.declared.mounts.Mounts.{Mounts}
use Rattle.mount_file.specs.declared.mounts.Mount.{Mount}
use Rattle.mount_file.specs.declared.mounts.MountFault.{MountFault}
use Rattle.mount_file.specs.declared.mounts.MountFault.TheVariants.{NoRoot, Twice, TooMany}
use Rattle.mount_file.specs.declared.rules.TheConstants.{MOST_MOUNTS, MOST_TASKS}

-- two places are the same: None is `/`
-- mount(8)
abbrev pub is_same_place : Option (List ℕ) → Option (List ℕ) → Bool
is_same_place None None = true
is_same_place (Some name) (Some other) = bytes_eq name other
is_same_place _ _ = false

-- one folder is another, or lies in it, wherever the two lie from
-- path_resolution(7), path prefix; that a leading slash is not looked at: profile
abbrev pub is_in : List (List ℕ) → List (List ℕ) → Bool
is_in names others = starts_with bytes_eq names others || starts_with bytes_eq others names

-- two mounts can't both be
-- profile
abbrev pub clashes : Mount → Mount → Bool
clashes mount other = is_same_place mount.at other.at || is_in mount.folder.names other.folder.names

-- two of the mounts can't both be
-- profile
abbrev pub has_clash : List Mount → Bool
has_clash [] = false
has_clash (mount ∷ mounts) = list_any (clashes mount) mounts || has_clash mounts

-- a mount is at `/`
-- profile
abbrev pub has_root : List Mount → Bool
has_root mounts = list_any (λ (mount : Mount). is_none mount.at) mounts

-- there are more mounts or tasks than may be
-- profile
abbrev pub has_too_many : Mounts → Bool
has_too_many mounts = nat_lt MOST_MOUNTS (length mounts.mounts) || nat_lt MOST_TASKS (length mounts.tasks)

-- the first rule that is broken
-- profile
abbrev pub rule_broken : Mounts → Option MountFault
rule_broken mounts =
    if not (has_root mounts.mounts) then Some NoRoot
    else if has_clash mounts.mounts then Some Twice
    else if has_too_many mounts then Some TooMany
    else None
