-- pipe2.
use Rattle.std.specs.Prelude.{ℕ, ◌+◌, ◌%◌, ◌^◌, ◌==◌, not, Bool, List, [], ◌∷◌, ◌++◌, Option, Some, pos}
use Rattle.std.specs.Prelude.{option_map, option_and_then, if◌then◌else◌}
use Rattle.std.specs.FinMap as map
use Rattle.std.specs.Int.{to_le_bytes, w32}
use Rattle.std.specs.Int.RustNames.{bit_and}
use Rattle.sn_errno.specs.declared.errno.Errno.TheVariants.{EFAULT, EINVAL, EMFILE}
use Rattle.fd_table.specs.Flags.{has_flag}
use Rattle.fd_table.specs.Tables.{Table}
use Rattle.fd_table.specs.declared.description.Object.TheVariants.{PipeEnd}
use Rattle.fd_table.specs.declared.description.PipeSide.TheVariants as side
use Rattle.fd_table.specs.declared.flags.AccessMode.TheVariants.{Read, Write}
use Rattle.fd_table.specs.declared.flags.TheConstants.{O_CLOEXEC, O_NONBLOCK}
use Rattle.pipe_core.specs.Pipes.{new_pipe}
use Rattle.sn_base.specs.declared.made.Made.{Made}
use Rattle.mm_space.specs.Accesses.{writable}
use Rattle.mm_space.specs.Handed.{InHand}
use Rattle.kernel_model.specs.declared.caller.Caller.{Caller}
use Rattle.kernel_model.specs.declared.kernel.Part.TheVariants.{OfTable, OfDescription, OfPipe}
use Rattle.kernel_model.specs.descriptors.OpenFiles.{descriptor_of, new_file}
use Rattle.kernel_model.specs.calls.Answers.{Answer, replies, refuses}
use Rattle.kernel_model.specs.calls.Callers.{Context}
use Rattle.kernel_model.specs.calls.Lookups.{lowest_free, or_refuse, with_callers_table}
use Rattle.kernel_model.specs.entries.Areas.{access_row, reach_changes, written_with}
use Rattle.kernel_model.specs.entries.Parts.{Change, Prog, done, ◌>>=◌}

-- flags of no other bits than O_NONBLOCK and O_CLOEXEC
-- pipe(2), EINVAL; that O_DIRECT is refused: profile
abbrev pub are_pipe_flags : (flags : ℕ) → Bool
are_pipe_flags flags = bit_and flags (O_NONBLOCK + O_CLOEXEC) == flags

-- the two lowest free numbers: of the read end, and of the write end
-- pipe(2), DESCRIPTION; open(2), DESCRIPTION: the lowest-numbered; EMFILE
abbrev pub two_free : Table → Option (ℕ × ℕ)
two_free table =
    option_and_then (λ first. option_map (λ second. (first, second)) (lowest_free table (first + 1)))
    (lowest_free table 0)

-- the name of the pipe and of the read end that the entry of a place made, and that of the write end
-- profile
abbrev pub read_end_at : (place : ℕ) → Made
read_end_at place = record { place = place; index = 0 }

abbrev pub write_end_at : (place : ℕ) → Made
write_end_at place = record { place = place; index = 1 }

-- a table with both ends that the entry of a place made, and their numbers as an array of two int
-- pipe(2), O_CLOEXEC; pipefd
abbrev pub with_ends_of : (place flags : ℕ) → ℕ × ℕ → Table → Table
with_ends_of place flags fds table =
    let cloexec = has_flag flags O_CLOEXEC in
    map.insert (map.insert table fds.0 (descriptor_of (read_end_at place) cloexec)) fds.1
    (descriptor_of (write_end_at place) cloexec)

abbrev pub two_ints : ℕ × ℕ → List ℕ
two_ints fds = to_le_bytes w32 fds.0 ++ to_le_bytes w32 fds.1

-- a pipe, and a description of each end: the pipe and the read end by index 0, the write end by index 1
-- pipe(2), DESCRIPTION, O_NONBLOCK; the names: profile
abbrev pub ends_made : (place flags : ℕ) → List Change
ends_made place flags =
    let nonblock = has_flag flags O_NONBLOCK in
    (OfPipe (read_end_at place), Some new_pipe)
    ∷ (OfDescription (read_end_at place), Some (new_file (PipeEnd (read_end_at place) side.Read) Read nonblock))
    ∷ (OfDescription (write_end_at place), Some (new_file (PipeEnd (read_end_at place) side.Write) Write nonblock))
    ∷ []

abbrev pub pipe_made : Context → Caller → (buffer flags : ℕ) → List InHand → Table → ℕ × ℕ → Answer
pipe_made context c buffer flags hand table fds =
    replies (pos 0)
    (ends_made context.place flags
    ++ (OfTable c.table, Some (with_ends_of context.place flags fds table))
    ∷ reach_changes c.memory (written_with c.task c.space buffer (two_ints fds) hand))

-- pipe2(buffer, flags): flags are the low 32 bits
-- pipe(2), ERRORS: EINVAL, EFAULT, EMFILE; their order: profile
abbrev pub pipe2_of : Context → Caller → (buffer flags : ℕ) → Prog Answer
pipe2_of context c buffer flags =
    if not (are_pipe_flags flags)
    then done (refuses EINVAL)
    else access_row writable c.space buffer 8
    >>= or_refuse EFAULT (λ hand. with_callers_table c
    (λ table. or_refuse EMFILE (λ fds. done (pipe_made context c buffer flags hand table fds)) (two_free table)))

abbrev pub pipe2_row : Context → (buffer flags : ℕ) → Caller → Prog Answer
pipe2_row context buffer flags c = pipe2_of context c buffer (flags % 2 ^ 32)
