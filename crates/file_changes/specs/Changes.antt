-- What is open after a change of the caller's descriptors.
use Rattle.std.specs.Prelude.{ℕ, Bool, Option}
use Rattle.std.specs.Option.{option_map_or}
use Rattle.std.specs.FinMap as map
use Rattle.fd_table.specs.Descriptions.{with_status}
use Rattle.fd_table.specs.Tables.{Table, dup3_fault, marked, with_mark}
use Rattle.fd_table.specs.declared.descriptor.Descriptor.{Descriptor}
use Rattle.sn_base.specs.declared.made.Made.{Made}
use Rattle.kernel_model.specs.Names.{get_named, with_named}
use Rattle.kernel_model.specs.declared.open_files.OpenFile.{OpenFile}
use Rattle.kernel_model.specs.declared.open_files.OpenFiles.{OpenFiles}
use Rattle.kernel_model.specs.laws.Files.{with_one_fewer, with_one_more}
use Rattle.file_changes.specs.declared.change.FileChange.{FileChange}
use Rattle.file_changes.specs.declared.change.FileChange.TheVariants.{Nothing, Gives, Marks, SetsStatus, Closes}

-- what is open, with another table of that name
-- profile
abbrev pub with_table : Made → Table → OpenFiles → OpenFiles
with_table name table files = record files { tables = with_named files.tables name.place name.index table }

-- a change by what the table of a name is, and by what a number of it stands for; where there is none nothing changes
-- profile
abbrev pub by_table : (Table → OpenFiles → OpenFiles) → (table : Made) → OpenFiles → OpenFiles
by_table change name files =
    option_map_or (λ table. change table files) (get_named files.tables name.place name.index) files

abbrev pub by_descriptor : (Descriptor → OpenFiles → OpenFiles) → Option Descriptor → OpenFiles → OpenFiles
by_descriptor change d files = option_map_or (λ e. change e files) d files

-- a descriptor is closed, if there is one
-- close(2); dup(2): a number that is open is closed silently before
abbrev pub freed : Option Descriptor → OpenFiles → OpenFiles
freed d files = by_descriptor (λ e. with_one_fewer e.description) d files

-- a number gets a descriptor's description, in the place of what it had
-- dup(2), DESCRIPTION
abbrev pub given_to : (number : ℕ) → (cloexec : Bool) → (name : Made) → Table → Descriptor → OpenFiles
    → OpenFiles
given_to number cloexec name table d files =
    freed (map.get table number)
    (with_table name (map.insert table number (with_mark d cloexec))
    (record files { descriptions = with_one_more d.description files.descriptions }))

-- and so by the numbers, where the second may have what the first has
-- dup(2), ERRORS: EINVAL of dup3, EBADF
abbrev pub given : (from number : ℕ) → (cloexec : Bool) → (name : Made) → Table → OpenFiles → OpenFiles
given from number cloexec name table files =
    option_map_or (λ fault. files) (dup3_fault table from number)
    (by_descriptor (given_to number cloexec name table) (map.get table from) files)

-- a number that was open is free
-- close(2)
abbrev pub closed : (number : ℕ) → (name : Made) → Table → OpenFiles → OpenFiles
closed number name table files =
    by_descriptor (λ d rest. with_one_fewer d.description (with_table name (map.remove table number) rest))
    (map.get table number) files

-- an open file description has these status flags, where there is one
-- fcntl(2), F_SETFL
abbrev pub with_flags : (description : Made) → (flags : ℕ) → OpenFiles → OpenFiles
with_flags description flags files =
    option_map_or (λ (file : OpenFile). record files {
      descriptions = with_named files.descriptions description.place description.index
          (record file { description = with_status file.description flags });
    }) (get_named files.descriptions description.place description.index) files

-- what is open after a change by a caller of that table
-- dup(2); fcntl(2); close(2)
abbrev pub files_after : FileChange → (table : Made) → OpenFiles → OpenFiles
files_after Nothing name files = files
files_after (Gives from number cloexec) name files = by_table (given from number cloexec name) name files
files_after (Marks number cloexec) name files = by_table (λ t. with_table name (marked t number cloexec)) name files
files_after (SetsStatus description flags) name files = with_flags description flags files
files_after (Closes number) name files = by_table (closed number name) name files
