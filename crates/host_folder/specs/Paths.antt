-- Where the files of a granted folder lie on the machine.
use Rattle.std.specs.Prelude.{ℕ, Bool, true, false, List, [], ◌∷◌, ◌++◌}

-- names, each behind a slash
-- POSIX.1-2017, Base Definitions, Pathname
abbrev pub slashed : List (List ℕ) → List ℕ
slashed [] = []
slashed (name ∷ names) = 47 ∷ name ++ slashed names

-- where a folder's path begins: at the root, which needs no byte before the slash, or at `.`, byte 46
-- POSIX.1-2017, Base Definitions, Absolute Pathname and Relative Pathname
abbrev pub path_start : Bool → List ℕ
path_start true = []
path_start false = 46 ∷ []
