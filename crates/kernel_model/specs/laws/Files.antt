-- What is open, once descriptors were counted: told without the changes.
use Rattle.std.specs.Prelude.{◌-◌, nat_le, List, [], ◌∷◌, Option, Some, None, if◌then◌else◌, option_map}
use Rattle.fd_table.specs.Tables.{Table, descriptions_of}
use Rattle.fd_table.specs.declared.description.Object.{Object}
use Rattle.fd_table.specs.declared.description.Object.TheVariants.{Node, PipeEnd, Console, EmptyInput}
use Rattle.sn_base.specs.declared.made.Made.{Made}
use Rattle.kernel_model.specs.Names.{NamedMap, get_named, with_named, without_named}
use Rattle.kernel_model.specs.declared.open_files.OpenFile.{OpenFile}
use Rattle.kernel_model.specs.declared.open_files.OpenFiles.{OpenFiles}
use Rattle.kernel_model.specs.descriptors.Counts.{end_closed, one_more}
use Rattle.kernel_model.specs.entries.Parts.{set_named}

-- open file descriptions with a descriptor more of one of them, and of each of these
-- dup(2); fork(2)
abbrev pub with_one_more : Made → NamedMap OpenFile → NamedMap OpenFile
with_one_more name files = set_named name (option_map one_more (get_named files name.place name.index)) files

abbrev pub all_counted : List Made → NamedMap OpenFile → NamedMap OpenFile
all_counted [] files = files
all_counted (name ∷ names) files = all_counted names (with_one_more name files)

-- what is open once the last descriptor of an object is closed
-- close(2)
abbrev pub without_object : Object → OpenFiles → OpenFiles
without_object (Node ino) files = files
without_object (PipeEnd name side) files = record files {
  pipes = set_named name (end_closed side (get_named files.pipes name.place name.index)) files.pipes;
}
without_object Console files = files
without_object EmptyInput files = files

-- once a descriptor fewer has a description, and each of these
-- close(2)
abbrev pub dropped_by : Made → Option OpenFile → OpenFiles → OpenFiles
dropped_by name None files = files
dropped_by name (Some file) files =
    if nat_le 2 file.descriptors
    then record files {
      descriptions = with_named files.descriptions name.place name.index
          (record file { descriptors = file.descriptors - 1 });
    }
    else without_object file.description.object
    (record files { descriptions = without_named files.descriptions name.place name.index })

abbrev pub with_one_fewer : Made → OpenFiles → OpenFiles
with_one_fewer name files = dropped_by name (get_named files.descriptions name.place name.index) files

abbrev pub all_dropped : List Made → OpenFiles → OpenFiles
all_dropped [] files = files
all_dropped (name ∷ names) files = all_dropped names (with_one_fewer name files)

-- once a table was copied, and once it was closed
-- fork(2); _exit(2)
abbrev pub copied_by : (copy : Made) → Option Table → OpenFiles → OpenFiles
copied_by copy None files = files
copied_by copy (Some table) files = record files {
  tables = with_named files.tables copy.place copy.index table;
  descriptions = all_counted (descriptions_of table) files.descriptions;
}

abbrev pub with_copy : (name copy : Made) → OpenFiles → OpenFiles
with_copy name copy files = copied_by copy (get_named files.tables name.place name.index) files

abbrev pub closed_by : (name : Made) → Option Table → OpenFiles → OpenFiles
closed_by name None files = files
closed_by name (Some table) files =
    all_dropped (descriptions_of table)
    (record files { tables = without_named files.tables name.place name.index })

abbrev pub without_table : Made → OpenFiles → OpenFiles
without_table name files = closed_by name (get_named files.tables name.place name.index) files
