-- What an entry touched of what is open, and which calls that wait used that.
use Rattle.std.specs.Prelude.{ℕ, ◌||◌, Bool, false, Option, Some, None, option_and_then, option_map}
use Rattle.std.specs.Option.{option_map_or}
use Rattle.std.specs.FinMap as map
use Rattle.fd_table.specs.declared.description.Object.{Object}
use Rattle.fd_table.specs.declared.description.Object.TheVariants.{Node, PipeEnd, Console, EmptyInput}
use Rattle.fd_table.specs.declared.descriptor.Descriptor.{Descriptor}
use Rattle.sn_base.specs.declared.made.Made.{Made}
use Rattle.kernel_model.specs.Names.{get_named}
use Rattle.kernel_calls.specs.declared.prepared.UsedEnd.{UsedEnd}
use Rattle.kernel_model.specs.declared.open_files.OpenFile.{OpenFile}
use Rattle.kernel_model.specs.declared.open_files.OpenFiles.{OpenFiles}
use Rattle.parked_tasks.specs.Used.{has_description, has_pipe, has_used, same_made}
use Rattle.parked_tasks.specs.declared.touched.Touched.{Touched}
use Rattle.parked_tasks.specs.declared.touched.UpToTwo.{UpToTwo}
use Rattle.parked_tasks.specs.declared.used.Spot.{Spot}
use Rattle.parked_tasks.specs.declared.used.Used.{Used}

-- whether a name is that, where there is one, and whether it is one of up to two
-- profile
abbrev pub is_that_name : Option Made → Made → Bool
is_that_name one name = option_map_or (λ m. same_made name m) one false

abbrev pub are_named : UpToTwo → Made → Bool
are_named names name = is_that_name names.first name || is_that_name names.second name

-- whether a call that waits used that, where there is such a thing
-- profile
abbrev pub is_used : Option Used → Spot → Bool
is_used used spot = option_map_or (has_used spot) used false

-- whether it used an end of a pipe by a descriptor of a table of that name, where there is one
-- read(2); write(2); pipe(7)
abbrev pub has_table_named : Option Made → Spot → Bool
has_table_named table spot = option_map_or (λ (end : UsedEnd). is_that_name table spot.table) spot.awaited.end false

-- whether it used anything that an entry touched
-- profile
abbrev pub is_touched_by : Touched → Spot → Bool
is_touched_by touched spot =
    has_table_named touched.table spot
    || (has_description (are_named touched.descriptions) spot || has_pipe (are_named touched.pipes) spot)

abbrev pub is_touched : Option Touched → Spot → Bool
is_touched touched spot = option_map_or (λ t. is_touched_by t spot) touched false

-- ---- what a change of what is open touches

-- the open file description of a number of a descriptor table, where it is open
-- open(2), Open file descriptions
abbrev pub description_at : (table : Made) → (number : ℕ) → OpenFiles → Option Made
description_at table number files =
    option_map (λ (d : Descriptor). d.description)
    (option_and_then (λ t. map.get t number) (get_named files.tables table.place table.index))

-- the pipe of which an object, or an open file description, is an end
-- pipe(7)
abbrev pub pipe_in : Object → Option Made
pipe_in (Node ino) = None
pipe_in (PipeEnd name side) = Some name
pipe_in Console = None
pipe_in EmptyInput = None

abbrev pub pipe_at : OpenFiles → Made → Option Made
pipe_at files name =
    option_and_then (λ (file : OpenFile). pipe_in file.description.object)
    (get_named files.descriptions name.place name.index)

abbrev pub pipe_of : (description : Option Made) → OpenFiles → Option Made
pipe_of description files = option_and_then (pipe_at files) description

-- a descriptor table, an open file description that is changed, and one that has a descriptor fewer, with its pipe
-- dup(2); fcntl(2); close(2)
abbrev pub touched_with : (table : Made) → (changed dropped : Option Made) → OpenFiles → Touched
touched_with table changed dropped files = record {
  table = Some table;
  descriptions = record { first = changed; second = dropped };
  pipes = record { first = pipe_of dropped files; second = None };
}
