-- How a task stands to the futex list.
use Rattle.std.specs.Prelude.{ℕ, if◌then◌else◌}
use Rattle.futex_core.specs.Waiters.{FutexList, is_asleep, is_woken}

-- a task that is not on the futex list, one that sleeps, and one that was woken and whose call has no entry yet
-- futex(2), FUTEX_WAIT; that a woken task stands on the list until its call has replied: profile
pub data Wait : Type 0 where
  Awake : Wait
  Asleep : Wait
  Woken : Wait

abbrev pub wait_of : FutexList → (task : ℕ) → Wait
wait_of list task = if is_asleep list task then Asleep else if is_woken list task then Woken else Awake
