-- What becomes of a task, and of the pool, as a turn ends.
use Rattle.std.specs.Prelude.{ℕ, Bool, ◌==◌, ◌&&◌, ◌-◌, ◌^◌, nat_lt}
use Rattle.pool_places.specs.declared.ends.Tried.{Tried}
use Rattle.pool_places.specs.declared.places.Halt.{Halt}
use Rattle.pool_places.specs.declared.places.Halt.TheVariants.{Runs, Full, Lost}

-- a new child, before its first turn
-- profile
abbrev pub born : {K : Type 0} → K → Tried K
born t = record { task = t; began = 0 }

-- no turn that ended since that count answered anything but Parked, as far as one can count
-- profile
abbrev pub waits : ℕ → ℕ → Bool
waits turns began = (began == turns) && nat_lt turns (2 ^ 64 - 1)

-- where turns may begin, none does after Full
-- profile
abbrev pub filled : Halt → Halt
filled Runs = Full
filled Full = Full
filled Lost = Lost
