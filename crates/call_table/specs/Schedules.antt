-- Which tasks may have the next turn, and that no other's next step is ready.
use Rattle.std.specs.Prelude.{◌≡◌, ◌≢◌, ◌<◌, ◌==◌, ◌&&◌, ◌||◌, not, nat_lt, ℕ, Bool, true, false, Option, Some, None}
use Rattle.std.specs.Prelude.{is_some}
use Rattle.std.specs.FinMap as map
use Rattle.futex_core.specs.Waiters.{FutexList, is_asleep, is_woken}
use Rattle.task_table.specs.Table.{is_live}
use Rattle.kernel_model.specs.entries.Waiting.{Woken, wait_of}
use Rattle.proc_cells.specs.declared.cells.Cells.{Cells}
use Rattle.proc_cells.specs.Cells.{IsAwake}
use Rattle.parked_tasks.specs.Parking.{parked_at}
use Rattle.parked_tasks.specs.declared.used.Spot.{Spot}
use Rattle.parked_tasks.specs.declared.parking.Parking.{Parking}
use Rattle.call_table.specs.declared.schedule.Candidate.{Candidate}
use Rattle.call_table.specs.Parks.{Parks}

-- whether a task is not on the futex list
-- futex(2)
abbrev pub is_off : FutexList → (task : ℕ) → Bool
is_off list task = not (is_asleep list task) && not (is_woken list task)

-- whether a task is looked at, or parked
-- profile
abbrev pub is_watched : Parking → (task : ℕ) → Bool
is_watched parking task = map.contains_key parking.awake task || is_some (parked_at parking task)

-- Each task that is looked at is not on the futex list, and is not parked. Each that is parked waits. Each other live
-- task is on the futex list.
-- profile
pub record AreParked (cells : Cells) (parking : Parking) : Type 0 where
  pub awake : (task : ℕ) → map.contains_key parking.awake task ≡ true → IsAwake cells task
  pub apart : (task : ℕ) → map.contains_key parking.awake task ≡ true → parked_at parking task ≡ None
  pub parked : (task : ℕ) (spot : Spot) → parked_at parking task ≡ Some spot → Parks cells task spot
  pub covers : (task : ℕ) → is_live cells.tasks.tasks task ≡ true → IsAwake cells task
      → is_watched parking task ≡ true

-- the same but for one task, which is looked at and may be on the futex list
-- profile
pub record AreParkedBut (one : ℕ) (cells : Cells) (parking : Parking) : Type 0 where
  pub looked_at : map.contains_key parking.awake one ≡ true
  pub awake : (task : ℕ) → one ≢ task → map.contains_key parking.awake task ≡ true → IsAwake cells task
  pub apart : (task : ℕ) → map.contains_key parking.awake task ≡ true → parked_at parking task ≡ None
  pub parked : (task : ℕ) (spot : Spot) → parked_at parking task ≡ Some spot → Parks cells task spot
  pub covers : (task : ℕ) → one ≢ task → is_live cells.tasks.tasks task ≡ true → IsAwake cells task
      → is_watched parking task ≡ true

-- whether a task is the last, with a number above another, and not on the futex list
-- clone(2)
abbrev pub is_last_made : Cells → (last task : ℕ) → Bool
is_last_made cells last task =
    (nat_lt last cells.tasks.last && is_off cells.sleepers cells.tasks.last) && (task == cells.tasks.last)

-- a task may have the next turn: it was woken, or is looked at
-- futex(2), FUTEX_WAKE; profile
abbrev pub MayTurn : Cells → Parking → (task : ℕ) → (woken : Bool) → Type 0
MayTurn cells parking task true = wait_of cells.sleepers task ≡ Woken
MayTurn cells parking task false = map.contains_key parking.awake task ≡ true

abbrev pub IsCandidate : Cells → Parking → Candidate → Type 0
IsCandidate cells parking c = MayTurn cells parking c.task c.woken

-- a task may not have it
-- profile
pub record MayNotTurn (cells : Cells) (parking : Parking) (task : ℕ) : Type 0 where
  pub awake : map.contains_key parking.awake task ≡ false
  pub woken : is_woken cells.sleepers task ≡ false

-- the task of the least number above another that may have the next turn, or none where none above it may
-- profile
abbrev pub IsNextAbove : Cells → Parking → (after : ℕ) → Option Candidate → Type 0
IsNextAbove cells parking after None = (task : ℕ) → after < task → MayNotTurn cells parking task
IsNextAbove cells parking after (Some c) =
    (after < c.task) × IsCandidate cells parking c
    × ((task : ℕ) → after < task → task < c.task → MayNotTurn cells parking task)
