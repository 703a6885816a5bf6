-- The descriptors that have an open file description, as they are copied and closed.
use Rattle.std.specs.Prelude.{◌+◌, ◌-◌, ◌==◌, nat_le, List, [], ◌∷◌, ◌++◌, ◌&&◌, Option, Some, None}
use Rattle.std.specs.Prelude.{if◌then◌else◌, option_map, option_and_then}
use Rattle.fd_table.specs.Tables.{Table, descriptions_of}
use Rattle.fd_table.specs.declared.description.Object.{Object}
use Rattle.fd_table.specs.declared.description.Object.TheVariants.{Node, PipeEnd, Console, EmptyInput}
use Rattle.fd_table.specs.declared.description.PipeSide.{PipeSide}
use Rattle.fd_table.specs.declared.description.PipeSide.TheVariants.{Read, Write}
use Rattle.pipe_core.specs.Pipes.{PipeState, with_ends}
use Rattle.sn_base.specs.declared.made.Made.{Made}
use Rattle.sn_base.specs.Sums.{capped}
use Rattle.kernel_model.specs.declared.kernel.Part.TheVariants.{OfTable, OfDescription, OfPipe}
use Rattle.kernel_model.specs.declared.open_files.OpenFile.{OpenFile}
use Rattle.kernel_model.specs.entries.InTurn.{in_turn}
use Rattle.kernel_model.specs.entries.Parts.{Change, Prog, done, look, ◌>>=◌}

-- ---- a descriptor more, and a descriptor fewer

-- a description with a descriptor more; the count stops at 2^64 - 1, which no run comes to
-- dup(2); fork(2): the child's descriptors refer to the same open file descriptions; the end of the count: profile
abbrev pub one_more : OpenFile → OpenFile
one_more file = record file { descriptors = capped (file.descriptors + 1) }

abbrev pub counted : Made → Prog (List Change)
counted name = look (OfDescription name) (λ file. done ((OfDescription name, option_map one_more file) ∷ []))

-- a pipe with an end fewer; without an end it is gone
-- pipe(7), I/O on pipes and FIFOs
abbrev pub without_end : PipeSide → PipeState → PipeState
without_end Read pipe = with_ends pipe (pipe.readers - 1) pipe.writers
without_end Write pipe = with_ends pipe pipe.readers (pipe.writers - 1)

abbrev pub if_held : PipeState → Option PipeState
if_held pipe = if (pipe.readers == 0) && (pipe.writers == 0) then None else Some pipe

abbrev pub end_closed : PipeSide → Option PipeState → Option PipeState
end_closed side pipe = option_and_then (λ p. if_held (without_end side p)) pipe

-- what goes with the last descriptor of an object: the end of a pipe
-- close(2), DESCRIPTION: the last descriptor of an open file description
abbrev pub object_closed : Object → Prog (List Change)
object_closed (Node ino) = done []
object_closed (PipeEnd name side) = look (OfPipe name) (λ pipe. done ((OfPipe name, end_closed side pipe) ∷ []))
object_closed Console = done []
object_closed EmptyInput = done []

-- a description with a descriptor fewer; with the last it is closed
-- close(2), DESCRIPTION
abbrev pub file_dropped : Made → Option OpenFile → Prog (List Change)
file_dropped name None = done []
file_dropped name (Some file) =
    if nat_le 2 file.descriptors
    then done ((OfDescription name, Some (record file { descriptors = file.descriptors - 1 })) ∷ [])
    else object_closed file.description.object >>= λ changes. done ((OfDescription name, None) ∷ changes)

abbrev pub dropped : Made → Prog (List Change)
dropped name = look (OfDescription name) (file_dropped name)

-- ---- whole tables

-- a table's copy under another name, whose descriptors have the same descriptions; where no table is, none is made
-- fork(2); clone(2), CLONE_FILES
abbrev pub copied_as : (copy : Made) → Option Table → Prog (List Change)
copied_as copy None = done []
copied_as copy (Some table) =
    in_turn counted (descriptions_of table) >>= λ changes. done (changes ++ (OfTable copy, Some table) ∷ [])

abbrev pub table_copied : (name copy : Made) → Prog (List Change)
table_copied name copy = look (OfTable name) (copied_as copy)

-- a table with all its descriptors closed, in the order of their numbers, which is gone then
-- _exit(2): any open file descriptors belonging to the process are closed
abbrev pub closed_as : (name : Made) → Option Table → Prog (List Change)
closed_as name None = done []
closed_as name (Some table) =
    in_turn dropped (descriptions_of table) >>= λ changes. done (changes ++ (OfTable name, None) ∷ [])

abbrev pub table_closed : Made → Prog (List Change)
table_closed name = look (OfTable name) (closed_as name)
