-- The parts of a path.
use Rattle.std.specs.Prelude.{ℕ, nat_eq, List, [], ◌∷◌, Bool, true, false, filter}
use Rattle.std.specs.List.{slice_split}

-- a piece of a path has a byte, so that it counts
-- path_resolution(7): several slashes in a row stand for one
abbrev pub is_part : List ℕ → Bool
is_part [] = false
is_part (byte ∷ piece) = true

-- the parts of a path: the pieces between its slashes, but for the empty ones
-- path_resolution(7); POSIX.1-2017, Base Definitions, Pathname Resolution
abbrev pub parts_of : List ℕ → List (List ℕ)
parts_of path = filter is_part (slice_split (λ byte. nat_eq byte 47) path)
