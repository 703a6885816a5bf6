-- That no task is lost or made up: the numbers of those that are here, and of those that are out.
use Rattle.std.specs.Prelude.{◌≡◌, ℕ, ◌+◌, ◌++◌, List, Bool, true, false, map, sum_by}
use Rattle.pool_turn.specs.declared.turn.Last.{Last}
use Rattle.pool_turn.specs.declared.turn.Last.TheVariants.{New, GoesOn, Waits, Over, NoRoom}
use Rattle.pool_places.specs.declared.ends.Tried.{Tried}
use Rattle.pool_ties.specs.declared.rule.Note.{Note}

-- a task that isn't over may have a turn
-- profile
abbrev pub may_go : Last → Bool
may_go New = true
may_go GoesOn = true
may_go Waits = true
may_go Over = false
may_go NoRoom = true

-- profile
abbrev pub is_parked : Last → Bool
is_parked New = false
is_parked GoesOn = false
is_parked Waits = true
is_parked Over = false
is_parked NoRoom = false

-- profile
abbrev pub is_over : Last → Bool
is_over New = false
is_over GoesOn = false
is_over Waits = false
is_over Over = true
is_over NoRoom = false

-- profile
abbrev pub is_full : Last → Bool
is_full New = false
is_full GoesOn = false
is_full Waits = false
is_full Over = false
is_full NoRoom = true

-- the tasks of a queue
-- profile
abbrev pub tasks : {K : Type 0} → List (Tried K) → List K
tasks ts = map (λ t. t.task) ts

-- the tasks that are ready, parked or over
-- profile
abbrev pub here : {K : Type 0} → List (Tried K) → List (Tried K) → List K → List K
here ready parked ended = tasks ready ++ tasks parked ++ ended

module _ {K : Type 0} (number : K → ℕ) (forked : K → List ℕ) where
  -- the weight of the tasks' numbers, and that of all numbers that these tasks forked
  -- profile
  abbrev pub weight : (ℕ → ℕ) → List K → ℕ
  weight h ts = sum_by (λ t. h (number t)) ts

  abbrev pub weight_forked : (ℕ → ℕ) → List K → ℕ
  weight_forked h ts = sum_by (λ t. sum_by h (forked t)) ts

  -- each number stands as often among these tasks' as among those handed in and those that these tasks forked since
  -- profile
  abbrev pub SameNumbers : List ℕ → List ℕ → List K → Type 0
  SameNumbers handed before ts = (h : ℕ → ℕ) → weight h ts + sum_by h before ≡ sum_by h handed + weight_forked h ts

  -- the same, with the tasks that are out as they were noted: those issued and not come back
  -- profile
  abbrev pub Balanced : List ℕ → List ℕ → List K → List Note × List Note → Type 0
  Balanced handed before ts knot = (h : ℕ → ℕ)
      → weight h ts + sum_by (λ (n : Note). h n.number) knot.0 + sum_by (λ (n : Note). sum_by h n.forked) knot.1 +
      sum_by h before
      ≡ sum_by h handed + weight_forked h ts + sum_by (λ (n : Note). sum_by h n.forked) knot.0 +
      sum_by (λ (n : Note). h n.number) knot.1
