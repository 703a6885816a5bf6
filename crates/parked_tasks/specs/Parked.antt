-- Tasks that are parked, by number and by what they used, and what it is that they are looked at again.
use Rattle.std.specs.Prelude.{◌≡◌, ℕ, ◌||◌, Bool, true, Some, None, if◌then◌else◌}
use Rattle.std.specs.Ordering.{nat_cmp}
use Rattle.std.specs.FinMap as map
use Rattle.parked_tasks.specs.Used.{IsListedWith}
use Rattle.parked_tasks.specs.declared.index.Index.{Index}
use Rattle.parked_tasks.specs.declared.used.Spot.{Spot}

-- each task that is parked is listed with all that it used
-- profile
abbrev pub AreListed : (parked : map.FinMap nat_cmp Spot) → Index → Type 0
AreListed parked index = (task : ℕ) (spot : Spot) → map.get parked task ≡ Some spot → IsListedWith index task spot

-- each that is parked was parked so before
-- profile
abbrev pub WereParked : (before after : map.FinMap nat_cmp Spot) → Type 0
WereParked before after = (task : ℕ) (spot : Spot) → map.get after task ≡ Some spot → map.get before task ≡ Some spot

-- Some of the tasks that were parked are parked no more and are looked at, and among them is each that was parked with
-- what passes the test. Each other task is parked, or looked at, as it was.
-- profile
pub record HaveWoken {V : Type 0} (test : Spot → Bool) (before after : map.FinMap nat_cmp Spot)
    (awake awake' : map.FinMap nat_cmp V) : Type 0 where
  pub woken : ℕ → Bool
  pub passing : (task : ℕ) (spot : Spot) → map.get before task ≡ Some spot → test spot ≡ true
      → woken task ≡ true
  pub only : (task : ℕ) → woken task ≡ true → map.contains_key before task ≡ true
  pub parked : (task : ℕ) → map.get after task ≡ (if woken task then None else map.get before task)
  pub looked_at : (task : ℕ) → map.contains_key awake' task ≡ (map.contains_key awake task || woken task)
