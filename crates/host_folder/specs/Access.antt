-- How a node stands to its file.
use Rattle.std.specs.Prelude.{Option, Some, None}
use Rattle.host_node.specs.Told.{Opened, Closed, Reading, Writing}
use Rattle.host_folder.specs.declared.access.FileAccess.{FileAccess}
use Rattle.host_folder.specs.declared.access.FileAccess.TheVariants.{Shut, Listable, Readable, Writable}

-- how a node stands to its file
-- open(2), O_RDONLY and O_RDWR
abbrev pub opened_by : {F : Type 0} → FileAccess F → Opened
opened_by Shut = Closed
opened_by Listable = Reading
opened_by (Readable file) = Reading
opened_by (Writable file) = Writing

-- the file that is open for reading, if one is
-- open(2), O_RDONLY and O_RDWR
abbrev pub file_of : {F : Type 0} → FileAccess F → Option F
file_of Shut = None
file_of Listable = None
file_of (Readable file) = Some file
file_of (Writable file) = Some file
