-- The record of an opening as far as it has come.
use Rattle.std.specs.Prelude.{◌≡◌, ℕ, ◌+◌, ◌≤◌, List, map, take, length}
use Rattle.std.specs.List.{flat_map}
use Rattle.mount_file.specs.declared.mounts.Mounts.{Mounts}
use Rattle.mount_file.specs.declared.mounts.Program.{Program}
use Rattle.kernel_model.specs.declared.opening.OpenedTask.{OpenedTask}
use Rattle.kernel_model.specs.entries.Given.{numbers_of}
use Rattle.kernel_model.specs.files.Numbers.{count_up}

-- the fresh numbers of opening tasks
-- inode(7), st_ino
abbrev pub numbers_of_tasks : List OpenedTask → List ℕ
numbers_of_tasks tasks = flat_map (λ (o : OpenedTask). numbers_of o.given.fresh) tasks

-- a record has the words of the first so many programs, and so many numbers, at most one of each program, without a gap
-- from the one behind roots
-- profile
pub record IsRecord (m : Mounts) (tasks : List OpenedTask) (count drawn : ℕ) : Type 0 where
  pub words : map (λ (o : OpenedTask). o.words) tasks ≡ map (λ (p : Program). p.args) (take count m.tasks)
  pub few : count ≤ length m.tasks
  pub numbers : numbers_of_tasks tasks ≡ count_up (length m.mounts + 1) drawn
  pub one_each : drawn ≤ count

-- a record of some of the programs, with some numbers
-- profile
pub record IsRecorded (m : Mounts) (tasks : List OpenedTask) : Type 0 where
  pub count : ℕ
  pub drawn : ℕ
  pub is : IsRecord m tasks count drawn
