-- The form of the mount files that are read so far.
use Rattle.std.specs.Prelude.{◌≡◌, ◌≤◌, length, true, false}
use Rattle.mount_file.specs.Rules.{has_clash, has_root}
use Rattle.mount_file.specs.declared.mounts.Mounts.{Mounts}
use Rattle.mount_file.specs.declared.rules.TheConstants.{MOST_MOUNTS, MOST_TASKS}
use Rattle.mount_file.specs.declared.values.TheConstants.{MOST_ENTRIES}

-- mounts, one of them at `/`, no two of which clash, and no more than may be; and some tasks, no more than may be
-- profile
pub record HasForm (mounts : Mounts) : Type 0 where
  pub some_entries : 1 ≤ mounts.entries
  pub few_entries : mounts.entries ≤ MOST_ENTRIES
  pub seed : length mounts.seed ≡ 32
  pub rooted : has_root mounts.mounts ≡ true
  pub apart : has_clash mounts.mounts ≡ false
  pub few_mounts : length mounts.mounts ≤ MOST_MOUNTS
  pub some_tasks : 1 ≤ length mounts.tasks
  pub few_tasks : length mounts.tasks ≤ MOST_TASKS
