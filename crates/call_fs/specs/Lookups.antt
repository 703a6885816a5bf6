-- What a caller's descriptors stand for, in what is open.
use Rattle.std.specs.Prelude.{◌≡◌, ⊤, ℕ, Option, Some, None, option_and_then, option_copied}
use Rattle.std.specs.FinMap as map
use Rattle.fd_table.specs.declared.description.Object.{Object}
use Rattle.fd_table.specs.declared.description.Object.TheVariants.{Node, PipeEnd, Console, EmptyInput}
use Rattle.fd_table.specs.Tables.{Table}
use Rattle.fd_table.specs.declared.descriptor.Descriptor.{Descriptor}
use Rattle.pipe_core.specs.Pipes.{PipeState}
use Rattle.sn_base.specs.declared.made.Made.{Made}
use Rattle.kernel_model.specs.Names.{get_named}
use Rattle.kernel_model.specs.declared.caller.Caller.{Caller}
use Rattle.kernel_model.specs.declared.kernel.Kernel.{Kernel}
use Rattle.kernel_model.specs.declared.open_files.OpenFile.{OpenFile}
use Rattle.kernel_model.specs.declared.open_files.OpenFiles.{OpenFiles}
use Rattle.kernel_calls.specs.declared.prepared.UsedEnd.{UsedEnd}
use Rattle.call_fs.specs.declared.lookups.Looked.{Looked}
use Rattle.call_fs.specs.declared.lookups.FileInHand.{FileInHand}

-- what a number of a table stands for, and the open file description of that
-- open(2), DESCRIPTION
abbrev pub descriptor_at : Option Table → (number : ℕ) → Option Descriptor
descriptor_at table number = option_and_then (λ t. map.get t number) table

abbrev pub descriptor_in : OpenFiles → (table : Made) → (number : ℕ) → Option Descriptor
descriptor_in files table number = descriptor_at (get_named files.tables table.place table.index) number

abbrev pub file_at : OpenFiles → Descriptor → Option OpenFile
file_at files d = get_named files.descriptions d.description.place d.description.index

abbrev pub file_in : OpenFiles → (table : Made) → (number : ℕ) → Option OpenFile
file_in files table number = option_and_then (file_at files) (descriptor_in files table number)

-- the end of a pipe that is open by an open file description, and that a number of a table stands for
-- pipe(2), DESCRIPTION
abbrev pub end_by : (name : Made) → Object → Option UsedEnd
end_by name (Node ino) = None
end_by name (PipeEnd pipe side) = Some (record { description = name; pipe = pipe })
end_by name Console = None
end_by name EmptyInput = None

abbrev pub used_end_at : OpenFiles → Descriptor → Option UsedEnd
used_end_at files d = option_and_then (λ file. end_by d.description file.description.object) (file_at files d)

abbrev pub end_in : OpenFiles → (table : Made) → (number : ℕ) → Option UsedEnd
end_in files table number = option_and_then (used_end_at files) (descriptor_in files table number)

-- a number of the caller's table is open, and stands for that
-- open(2), DESCRIPTION
pub record IsOpen (looked : Looked) (c : Caller) (k : Kernel) : Type 0 where
  pub there : get_named k.files.tables c.table.place c.table.index ≡ Some looked.numbers.now
  pub has : map.get looked.numbers.now looked.number ≡ Some looked.descriptor

-- the pipe of which an object is an end, where it is one
-- pipe(2), DESCRIPTION
abbrev pub HasPipe : Object → OpenFiles → Option PipeState → Type 0
HasPipe (Node ino) files pipe = ⊤
HasPipe (PipeEnd name side) files pipe = get_named files.pipes name.place name.index ≡ pipe
HasPipe Console files pipe = ⊤
HasPipe EmptyInput files pipe = ⊤

-- a number of a table stands for that open file, which has that pipe
-- open(2), DESCRIPTION
pub record IsInHand (files : OpenFiles) (table : Made) (number : ℕ) (opened : FileInHand) : Type 0 where
  pub has : descriptor_in files table number ≡ Some opened.descriptor
  pub there : file_at files opened.descriptor ≡ Some opened.file
  pub pipe : HasPipe opened.file.description.object files (option_copied opened.pipe)

-- a number of a table stands for that open file, or for none
-- open(2), DESCRIPTION
abbrev pub StandsFor : OpenFiles → (table : Made) → (number : ℕ) → Option FileInHand → Type 0
StandsFor files table number None = file_in files table number ≡ None
StandsFor files table number (Some opened) = IsInHand files table number opened
