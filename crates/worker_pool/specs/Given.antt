-- What lies under the pool's lock once a turn ended, unless memory ran out.
use Rattle.std.specs.Prelude.{ℕ, List, [], ◌∷◌, ◌++◌, ◌+◌, ◌-◌, ◌^◌, min, if◌then◌else◌}
use Rattle.pool_turn.specs.declared.turn.TurnEnd.{TurnEnd}
use Rattle.pool_turn.specs.declared.turn.TurnEnd.TheVariants.{Ready, Forked, Parked, Ended, Full, Memory}
use Rattle.pool_places.specs.declared.ends.Tried.{Tried}
use Rattle.pool_places.specs.declared.places.Halt.{Halt}
use Rattle.pool_places.specs.declared.places.Halt.TheVariants.{Lost}
use Rattle.pool_places.specs.Turns.{born, waits, filled}

-- the count of turns that answered anything but Parked, one more
-- profile
abbrev pub counted : ℕ → ℕ
counted turns = min (turns + 1) (2 ^ 64 - 1)

module _ {K : Type 0} where
  -- a task whose last turn began at that count
  -- profile
  abbrev pub tried : K → ℕ → Tried K
  tried t began = record { task = t; began = began }

  -- those that are ready, by those that were ready and those that were parked
  -- profile
  abbrev pub ready_after : TurnEnd K → ℕ → ℕ → List (Tried K) → List (Tried K) → List (Tried K)
  ready_after (Ready t) began turns r p = r ++ p ++ tried t began ∷ []
  ready_after (Forked t c) began turns r p = r ++ p ++ tried t began ∷ [] ++ born c ∷ []
  ready_after (Parked t) began turns r p = if waits turns began then r else (r ++ tried t began ∷ [])
  ready_after (Ended t) began turns r p = r ++ p
  ready_after (Full t) began turns r p = r ++ p ++ tried t began ∷ []
  ready_after Memory began turns r p = r

  -- those that are parked: none, but after a turn that answered Parked
  -- profile
  abbrev pub parked_after : TurnEnd K → ℕ → ℕ → List (Tried K) → List (Tried K)
  parked_after (Ready t) began turns p = []
  parked_after (Forked t c) began turns p = []
  parked_after (Parked t) began turns p = if waits turns began then (p ++ tried t began ∷ []) else p
  parked_after (Ended t) began turns p = []
  parked_after (Full t) began turns p = []
  parked_after Memory began turns p = p

  -- those that are over
  -- profile
  abbrev pub over_after : TurnEnd K → List K → List K
  over_after (Ready t) es = es
  over_after (Forked t c) es = es
  over_after (Parked t) es = es
  over_after (Ended t) es = es ++ t ∷ []
  over_after (Full t) es = es
  over_after Memory es = es

  -- the count of turns
  -- profile
  abbrev pub turns_after : TurnEnd K → ℕ → ℕ
  turns_after (Ready t) turns = counted turns
  turns_after (Forked t c) turns = counted turns
  turns_after (Parked t) turns = turns
  turns_after (Ended t) turns = counted turns
  turns_after (Full t) turns = counted turns
  turns_after Memory turns = turns

  -- whether turns may begin
  -- profile
  abbrev pub halt_after : TurnEnd K → Halt → Halt
  halt_after (Ready t) h = h
  halt_after (Forked t c) h = h
  halt_after (Parked t) h = h
  halt_after (Ended t) h = h
  halt_after (Full t) h = filled h
  halt_after Memory h = Lost
