-- Open file descriptions and the descriptors that have them, as they are made.
use Rattle.std.specs.Prelude.{Bool, false}
use Rattle.std.specs.FinMap as map
use Rattle.fd_table.specs.declared.description.Object.{Object}
use Rattle.fd_table.specs.declared.descriptor.Descriptor.{Descriptor}
use Rattle.fd_table.specs.declared.flags.AccessMode.{AccessMode}
use Rattle.sn_base.specs.declared.made.Made.{Made}
use Rattle.kernel_model.specs.declared.open_files.OpenFile.{OpenFile}
use Rattle.kernel_model.specs.declared.open_files.OpenFiles.{OpenFiles}

-- no table, no open file description and no pipe
-- profile
abbrev pub nothing_open : OpenFiles
nothing_open = record { tables = map.empty; descriptions = map.empty; pipes = map.empty }

-- an open file description with one descriptor, at its beginning
-- open(2), DESCRIPTION: the file offset is set to the beginning
abbrev pub new_file : Object → AccessMode → (nonblock : Bool) → OpenFile
new_file object access nonblock = record {
  description = record { object = object; access = access; append = false; nonblock = nonblock; position = 0 };
  descriptors = 1;
}

-- a descriptor of an open file description
-- open(2), Open file descriptions
abbrev pub descriptor_of : Made → (cloexec : Bool) → Descriptor
descriptor_of name cloexec = record { description = name; cloexec = cloexec }
