-- When two names are of one futex word.
-- futex(2), DESCRIPTION; futex(2), FUTEX_PRIVATE_FLAG
use Rattle.std.specs.Prelude.{◌==◌, ◌&&◌, Bool, false}
use Rattle.futex_core.specs.declared.keys.Owner.{Owner}
use Rattle.futex_core.specs.declared.keys.Owner.TheVariants.{Memory, Area}
use Rattle.futex_core.specs.declared.keys.FutexKey.{FutexKey}

-- whether two owners are one: two memories or two shared areas, with one name
-- futex(2), DESCRIPTION: words in shared memory, and in one process's own; what they are named by: profile
abbrev pub same_owner : Owner → Owner → Bool
same_owner (Memory place index) (Memory other_place other_index) = (place == other_place) && (index == other_index)
same_owner (Area place index) (Area other_place other_index) = (place == other_place) && (index == other_index)
same_owner (Memory _ _) (Area _ _) = false
same_owner (Area _ _) (Memory _ _) = false

-- whether two names are of one word
-- futex(2), DESCRIPTION: the futex word at an address
abbrev pub same_word : FutexKey → FutexKey → Bool
same_word key other = same_owner key.owner other.owner && (key.address == other.address)
