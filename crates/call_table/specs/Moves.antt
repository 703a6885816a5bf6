-- What an entry of a task leaves as it was.
use Rattle.std.specs.Prelude.{◌≡◌, ◌≢◌, ◌≤◌, ◌+◌, ◌||◌, ◌&&◌, ℕ, Bool, true, false}
use Rattle.std.specs.FinMap as map
use Rattle.sn_base.specs.declared.made.Made.{Made}
use Rattle.task_table.specs.Table.{is_live}
use Rattle.kernel_model.specs.Names.{get_named}
use Rattle.kernel_model.specs.declared.entry.Entry.{Entry}
use Rattle.kernel_model.specs.declared.entry.Entry.TheVariants.{Run, Call, End, Sleep}
use Rattle.kernel_model.specs.entries.Waiting.{Awake, wait_of}
use Rattle.proc_cells.specs.declared.cells.Cells.{Cells}
use Rattle.parked_tasks.specs.Touched.{is_touched}
use Rattle.parked_tasks.specs.Untouched.{FilesMove}
use Rattle.parked_tasks.specs.Used.{same_made, uses_areas}
use Rattle.parked_tasks.specs.declared.used.Spot.{Spot}
use Rattle.call_table.specs.declared.entered.Entered.{Entered}

-- whether an entry puts its task to sleep
-- futex(2), FUTEX_WAIT
abbrev pub puts_to_sleep : Entry → Bool
puts_to_sleep (Run task n) = false
puts_to_sleep (Call task number args given reply) = false
puts_to_sleep (End task signal) = false
puts_to_sleep (Sleep task) = true

-- What an entry of a task with this memory leaves as it was. Where it leaves the task list, all other tasks have their
-- registers, and all other memories are as they were, and so is what is open but for what it is told to have touched.
-- Where it isn't told that it may change a shared area, none has changed. Who lives has lived, but for one of a number
-- above all. Who was off the futex list is off it, but for the task itself where it was put to sleep, and who lives and
-- is off it was.
-- profile
pub record LeavesRest (task : ℕ) (memory : Made) (made : Entered) (before after : Cells) : Type 0 where
  pub tasks : made.tasks ≡ false → after.tasks ≡ before.tasks
  pub registers : made.tasks ≡ false → (other : ℕ) → task ≢ other
      → map.get after.registers other ≡ map.get before.registers other
  pub spaces : made.tasks ≡ false → (name : Made) → same_made name memory ≡ false
      → get_named after.spaces name.place name.index ≡ get_named before.spaces name.place name.index
  pub areas : made.areas ≡ false → after.areas ≡ before.areas
  pub files : made.tasks ≡ false → FilesMove made.touched before.files after.files
  pub last : before.tasks.last ≤ after.tasks.last
  pub lives : (other : ℕ) → is_live after.tasks.tasks other ≡ true → is_live before.tasks.tasks other ≡ false
      → (other ≡ after.tasks.last) × (before.tasks.last + 1 ≤ after.tasks.last)
  pub off : (other : ℕ) → task ≢ other → wait_of before.sleepers other ≡ Awake
      → wait_of after.sleepers other ≡ Awake
  pub was_off : (other : ℕ) → task ≢ other → is_live after.tasks.tasks other ≡ true
      → wait_of after.sleepers other ≡ Awake → wait_of before.sleepers other ≡ Awake
  pub itself : puts_to_sleep made.entry ≡ false → wait_of after.sleepers task ≡ Awake
  pub asleep : puts_to_sleep made.entry ≡ true → wait_of after.sleepers task ≡ Awake → ⊥

-- whether a parked task is looked at again behind an entry of one with that memory: it used what that may have changed
-- profile
abbrev pub is_woken_by : Entered → (own : Made) → Spot → Bool
is_woken_by made own spot =
    made.tasks || ((same_made spot.memory own || (uses_areas spot && made.areas)) || is_touched made.touched spot)
