-- How a try ends.
use Rattle.std.specs.Prelude.{⊤, ℕ, true, Option, Some, None}
use Rattle.tied_cells.specs.declared.held.HeldPart.{HeldPart}
use Rattle.tied_tests.specs.declared.machine.Part.{Part}
use Rattle.tied_tests.specs.declared.machine.Part.TheVariants.{Counter, Pair}
use Rattle.tied_tests.specs.declared.adding.Added.{Added}
use Rattle.tied_tests.specs.declared.adding.Tried.{Tried}
use Rattle.tied_tests.specs.declared.adding.Tried.TheVariants.{Done, Again, Stopped}

-- where it was entered
-- profile
abbrev pub IfDone : Tried → (Added → Type 0) → Type 0
IfDone (Done a) fact = fact a
IfDone Again fact = ⊤
IfDone Stopped fact = ⊤

-- where its look went stale
-- profile
abbrev pub IfAgain : Tried → Type 0 → Type 0
IfAgain (Done a) fact = ⊤
IfAgain Again fact = fact
IfAgain Stopped fact = ⊤

-- where it can't be entered
-- profile
abbrev pub IfStopped : Tried → Type 0 → Type 0
IfStopped (Done a) fact = ⊤
IfStopped Again fact = ⊤
IfStopped Stopped fact = fact

-- a counter, changed
-- profile
abbrev pub added_part : ℕ → ℕ → HeldPart Part
added_part key n = record { key = key; content = Counter n; changed = true }

-- the pair, changed
-- profile
abbrev pub put_part : ℕ → ℕ → ℕ → HeldPart Part
put_part key a b = record { key = key; content = Pair a b; changed = true }

-- the first of a pair
-- profile
abbrev pub left_of : Part → Option ℕ
left_of (Pair a b) = Some a
left_of (Counter n) = None
