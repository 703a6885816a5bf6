-- The words of the command line, after the program's name.
use Rattle.std.specs.Prelude.{ℕ, List, [], ◌∷◌, Bool, true, false, Option, Some, None, if◌then◌else◌, codes, ◌+◌, ◌-◌}
use Rattle.std.specs.Prelude.{nat_le, ◌&&◌, ◌==◌}
use Rattle.std.specs.Str.{bytes_eq}

-- a run: the name of its mount file, how many workers, and whether the trace is printed
-- profile
pub record Command : Type 0 where
  pub mounts : List ℕ
  pub workers : ℕ
  pub trace : Bool

-- a word begins with a dash, as an option does
-- POSIX.1-2017, 12.2, Guideline 4
abbrev pub is_option : List ℕ → Bool
is_option [] = false
is_option (c ∷ cs) = c == 45

-- the number of workers that a word names: 1 to 16, in decimal, with no sign and no leading zero
-- profile
abbrev pub workers_of : List ℕ → Option ℕ
workers_of (d ∷ []) = if nat_le 49 d && nat_le d 57 then Some (d - 48) else None
workers_of (d ∷ e ∷ []) = if (d == 49) && (nat_le 48 e && nat_le e 54) then Some (10 + (e - 48)) else None
workers_of _ = None

-- the options behind the mount file: --workers N, and then --trace, each at most once
-- profile
abbrev pub traced : List ℕ → ℕ → List (List ℕ) → Option Command
traced mounts workers [] = Some (record { mounts = mounts; workers = workers; trace = false })
traced mounts workers (w ∷ []) =
    if bytes_eq w (codes "--trace") then Some (record { mounts = mounts; workers = workers; trace = true }) else None
traced mounts workers _ = None

abbrev pub with_workers : List ℕ → Option ℕ → List (List ℕ) → Option Command
with_workers mounts None words = None
with_workers mounts (Some n) words = traced mounts n words

abbrev pub options : List ℕ → List (List ℕ) → Option Command
options mounts (w ∷ n ∷ words) =
    if bytes_eq w (codes "--workers") then with_workers mounts (workers_of n) words else None
options mounts words = traced mounts 4 words

-- the command that the words are, or None where they are none: `run MOUNTS [--workers N] [--trace]`
-- profile
abbrev pub accepted : List (List ℕ) → Option Command
accepted (w ∷ mounts ∷ words) =
    if bytes_eq w (codes "run") then (if is_option mounts then None else options mounts words) else None
accepted _ = None
