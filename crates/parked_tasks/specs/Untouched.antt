-- What is as it was behind an effect: the task list, and what is open but for what was touched.
use Rattle.std.specs.Prelude.{◌≡◌, Bool, true, false, Option, Some, None}
use Rattle.sn_base.specs.declared.made.Made.{Made}
use Rattle.kernel_model.specs.Names.{get_named}
use Rattle.kernel_model.specs.declared.open_files.OpenFiles.{OpenFiles}
use Rattle.file_changes.specs.Changes.{files_after}
use Rattle.kernel_calls.specs.Prepared.{with_closed}
use Rattle.kernel_calls.specs.declared.prepared.Effect.{Effect}
use Rattle.kernel_calls.specs.declared.prepared.Effect.TheVariants.{Nothing, EndsGroup, EndsTask, SetsClear}
use Rattle.kernel_calls.specs.declared.prepared.Effect.TheVariants.{Wakes, Reaps, ChangesFiles}
use Rattle.parked_tasks.specs.Touched.{are_named, is_that_name}
use Rattle.parked_tasks.specs.declared.touched.Touched.{Touched}

-- whether an effect changes the task list
-- exit_group(2), _exit(2), set_tid_address(2), wait4(2)
abbrev pub changes_list : Effect → Bool
changes_list Nothing = false
changes_list (EndsGroup ending) = true
changes_list (EndsTask task ending) = true
changes_list (SetsClear task address) = true
changes_list (Wakes key most) = false
changes_list (Reaps which) = true
changes_list (ChangesFiles table change) = false

-- what is open is as it was, but for what an entry touched
-- close(2); dup(2); read(2); write(2)
pub record AreUntouched (touched : Touched) (before after : OpenFiles) : Type 0 where
  pub tables : (name : Made) → is_that_name touched.table name ≡ false
      → get_named after.tables name.place name.index ≡ get_named before.tables name.place name.index
  pub descriptions : (name : Made) → are_named touched.descriptions name ≡ false
      → get_named after.descriptions name.place name.index ≡ get_named before.descriptions name.place name.index
  pub pipes : (name : Made) → are_named touched.pipes name ≡ false
      → get_named after.pipes name.place name.index ≡ get_named before.pipes name.place name.index

abbrev pub FilesMove : Option Touched → (before after : OpenFiles) → Type 0
FilesMove None before after = after ≡ before
FilesMove (Some touched) before after = AreUntouched touched before after

-- what is open behind an effect
-- close(2); dup(2); _exit(2), DESCRIPTION
abbrev pub files_left : Effect → OpenFiles → OpenFiles
files_left Nothing files = files
files_left (EndsGroup ending) files = with_closed ending.closes files
files_left (EndsTask task ending) files = with_closed ending.closes files
files_left (SetsClear task address) files = files
files_left (Wakes key most) files = files
files_left (Reaps which) files = files
files_left (ChangesFiles table change) files = files_after change table files
