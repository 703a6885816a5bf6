-- Calls of a host in memory that are planned to fail.
use Rattle.std.specs.Prelude.{◌≡◌, ◌≢◌, ℕ, ◌+◌, ◌-◌, ◌==◌, List, [], ◌∷◌, ◌++◌, Bool, true, false, ◌&&◌, not, Option}
use Rattle.std.specs.Prelude.{Some, None, Result, Ok, Err, IsSome, if◌then◌else◌, map, filter}
use Rattle.std.specs.List.{list_any, starts_with}
use Rattle.std.specs.Str.{bytes_eq}
use lib.Pointwise.{pointwise}
use Rattle.sn_base.specs.Sums.{capped}
use Rattle.host_node.specs.Tree.{Shape, faults_of, with_faults}
use Rattle.host_node.specs.declared.error.HostErr.{HostErr}
use Rattle.host_node.specs.declared.error.HostErr.TheVariants.{Failed}
use Rattle.host_memory.specs.declared.plan.Op.{Op}
use Rattle.host_memory.specs.declared.plan.Op.TheVariants.{Stat, List as Listing, Lend, Open, ReadAt}
use Rattle.host_memory.specs.declared.plan.Line.{Line}
use Rattle.host_memory.specs.declared.plan.PlanErr.{PlanErr}
use Rattle.host_memory.specs.declared.plan.PlanErr.TheVariants.{NoNode, Memory}

-- two methods are the same
-- profile
abbrev pub is_op : Op → Op → Bool
is_op Stat Stat = true
is_op Listing Listing = true
is_op Lend Lend = true
is_op Open Open = true
is_op ReadAt ReadAt = true
is_op _ _ = false

-- a line is for this method of the node in this place
-- profile
abbrev pub is_for : List (List ℕ) → Op → Line → Bool
is_for place op line = pointwise bytes_eq place line.place && is_op op line.op

-- a line is for a node in this place or below it
-- path_resolution(7), path prefix
abbrev pub is_below : List (List ℕ) → Line → Bool
is_below place line = starts_with bytes_eq line.place place

-- the next call of the method of the node in this place is to fail; the world has the place of no names, and a grant is
-- its lend
-- profile
abbrev pub fails : List (List ℕ) → Op → List Line → Bool
fails place op lines = list_any (λ line. is_for place op line && line.left == 1) lines

-- a line with one call less to come until one fails
-- profile
abbrev pub one_less : Line → Line
one_less line = record { place = line.place; op = line.op; left = line.left - 1 }

-- the lines after a call of the method of the node in this place
-- profile
abbrev pub after_call : List (List ℕ) → Op → List Line → List Line
after_call place op lines = map (λ line. if is_for place op line then one_less line else line) lines

-- the lines for nodes in this place and below it, in order
-- profile
abbrev pub lines_below : List (List ℕ) → List Line → List Line
lines_below place lines = filter (is_below place) lines

-- the other lines, in order
-- profile
abbrev pub lines_beside : List (List ℕ) → List Line → List Line
lines_beside place lines = filter (λ line. not (is_below place line)) lines

-- a call failed exactly where that was planned, and then its object's count of failed calls rose by one
-- profile
abbrev pub FailsAsPlanned : {A : Type 0} → Bool → Result A HostErr → ℕ → ℕ → Type 0
FailsAsPlanned true result before now = (result ≡ Err Failed) × (now ≡ capped (before + 1))
FailsAsPlanned false result before now = (result ≢ Err Failed) × (now ≡ before)

-- a node after a failed call
-- profile
abbrev pub failed_once : Shape → Shape
failed_once shape = with_faults (capped (faults_of shape + 1)) shape

-- the lines that stay after a call was to lend the node in this place: where it was lent, those beside it
-- profile
abbrev pub lines_after : {N : Type 0} → Result (Option N) HostErr → List (List ℕ) → List Line → List Line
lines_after (Ok None) place lines = lines
lines_after (Ok (Some _)) place lines = lines_beside place lines
lines_after (Err _) place lines = lines

-- the place of what stands under a name of the directory in this place
-- path_resolution(7)
abbrev pub place_below : List (List ℕ) → List ℕ → List (List ℕ)
place_below place name = place ++ name ∷ []

-- what a refusal of a plan may tell: that nothing is there, or want of memory where something is
-- profile
abbrev pub IsPlanFaultOf : Option Shape → PlanErr → Type 0
IsPlanFaultOf there NoNode = there ≡ None
IsPlanFaultOf there Memory = IsSome there
