-- Where a task is parked, and what it is that one is parked or that some are looked at again.
use Rattle.std.specs.Prelude.{◌≡◌, ◌≢◌, ℕ, Bool, Option, Some}
use Rattle.std.specs.FinMap as map
use Rattle.parked_tasks.specs.Parked.{HaveWoken}
use Rattle.parked_tasks.specs.declared.parking.Parking.{Parking}
use Rattle.parked_tasks.specs.declared.used.Spot.{Spot}

-- what a task used that is parked
-- profile
abbrev pub parked_at : Parking → (task : ℕ) → Option Spot
parked_at parking task = map.get parking.parked.tasks task

-- each task is parked as it was
-- profile
abbrev pub AreParkedAlike : (before after : Parking) → Type 0
AreParkedAlike before after = (task : ℕ) → parked_at after task ≡ parked_at before task

-- a task is parked so, and each other as it was
-- profile
pub record IsParkedAt (task : ℕ) (spot : Spot) (before after : Parking) : Type 0 where
  pub itself : parked_at after task ≡ Some spot
  pub others : (other : ℕ) → task ≢ other → parked_at after other ≡ parked_at before other

-- some of the tasks that were parked are looked at instead, and among them is each that was parked with what passes
-- the test
-- profile
abbrev pub AreWoken : (test : Spot → Bool) → (before after : Parking) → Type 0
AreWoken test before after = HaveWoken test before.parked.tasks after.parked.tasks before.awake after.awake
