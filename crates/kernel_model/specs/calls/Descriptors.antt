-- dup, dup3, fcntl, ioctl and close: the descriptors of a caller.
use Rattle.std.specs.Prelude.{ℕ, ◌%◌, ◌^◌, ◌==◌, ◌||◌, nat_lt, not, Bool, true, false, List, [], ◌∷◌, Option, Some}
use Rattle.std.specs.Prelude.{None}
use Rattle.std.specs.Prelude.{pos, if◌then◌else◌}
use Rattle.std.specs.FinMap as map
use Rattle.sn_errno.specs.declared.errno.Errno.TheVariants.{EBADF, EINVAL, EMFILE, ENOTTY}
use Rattle.fd_table.specs.Descriptions.{status_flags, with_status}
use Rattle.fd_table.specs.Tables.{Table, marked, with_mark}
use Rattle.fd_table.specs.declared.flags.TheConstants.{O_CLOEXEC}
use Rattle.fd_table.specs.declared.table.TheConstants.{OPEN_MAX}
use Rattle.fd_table.specs.declared.descriptor.Descriptor.{Descriptor}
use Rattle.kernel_model.specs.declared.caller.Caller.{Caller}
use Rattle.kernel_model.specs.declared.kernel.Part.TheVariants.{OfTable, OfDescription}
use Rattle.kernel_model.specs.declared.open_files.OpenFile.{OpenFile}
use Rattle.kernel_model.specs.descriptors.Counts.{counted, dropped}
use Rattle.kernel_model.specs.calls.Answers.{Answer, replies, refuses}
use Rattle.kernel_model.specs.calls.Lookups.{descriptor}
use Rattle.kernel_model.specs.calls.Lookups.{lowest_free, or_refuse, with_descriptor, with_file}
use Rattle.kernel_model.specs.entries.InTurn.{followed}
use Rattle.kernel_model.specs.entries.Parts.{Change, Prog, done, ◌>>=◌}

-- a call on a table replies, and leaves the table so, with other changes
-- dup(2), close(2), RETURN VALUE
abbrev pub leaves_table : Caller → (reply : ℕ) → Table → List Change → Answer
leaves_table c reply table changes = replies (pos reply) ((OfTable c.table, Some table) ∷ changes)

-- ---- dup and dup3

-- a number gets the description of an open one, in the place of what it had, and is the reply
-- dup(2), DESCRIPTION: both refer to the same open file description; a number that is open is closed silently before
abbrev pub replaced : Option Descriptor → Prog (List Change)
replaced None = done []
replaced (Some d) = dropped d.description

abbrev pub gives : Caller → (cloexec : Bool) → Table → Descriptor → (number : ℕ) → Prog Answer
gives c cloexec table d number =
    followed (counted d.description) (replaced (map.get table number))
    >>= λ changes. done (leaves_table c number (map.insert table number (with_mark d cloexec)) changes)

-- the lowest free number at or above another
-- dup(2), EMFILE; fcntl(2), F_DUPFD
abbrev pub opens_from : Caller → (from : ℕ) → (cloexec : Bool) → Table → Descriptor → Prog Answer
opens_from c from cloexec table d = or_refuse EMFILE (gives c cloexec table d) (lowest_free table from)

-- dup(fd)
-- dup(2), ERRORS: EBADF, EMFILE; their order: profile
abbrev pub dup_row : (fd : ℕ) → Caller → Prog Answer
dup_row fd c = with_descriptor c fd (opens_from c 0 false)

-- O_CLOEXEC, or no flag
-- open(2), dup(2)
abbrev pub is_cloexec_or_none : (flags : ℕ) → Bool
is_cloexec_or_none flags = (flags == 0) || (flags == O_CLOEXEC)

-- a number that a table may have
-- getrlimit(2), RLIMIT_NOFILE
abbrev pub is_possible : (number : ℕ) → Bool
is_possible number = nat_lt number OPEN_MAX

-- dup3(fd, number, flags): flags are the low 32 bits
-- dup(2), ERRORS: EINVAL, EBADF; their order: profile
abbrev pub gives_at : Caller → (number flags : ℕ) → Table → Descriptor → Prog Answer
gives_at c number flags table d =
    if is_possible number then gives c (flags == O_CLOEXEC) table d number else done (refuses EBADF)

abbrev pub dup3_row : (fd number flags : ℕ) → Caller → Prog Answer
dup3_row fd number flags c =
    if not (is_cloexec_or_none (flags % 2 ^ 32)) || (descriptor fd == descriptor number)
    then done (refuses EINVAL)
    else with_descriptor c fd (gives_at c (descriptor number) (flags % 2 ^ 32))

-- ---- fcntl, ioctl and close

-- F_DUPFD and F_DUPFD_CLOEXEC: numbers from one on that a table may have
-- fcntl(2), ERRORS: EINVAL, EMFILE
abbrev pub dupfd_of : (from : ℕ) → (cloexec : Bool) → Caller → Table → Descriptor → Prog Answer
dupfd_of from cloexec c table d =
    if is_possible from then opens_from c from cloexec table d else done (refuses EINVAL)

-- F_GETFD and F_SETFD: the mark FD_CLOEXEC, which is 1
-- fcntl(2), File descriptor flags
abbrev pub mark_of : Descriptor → ℕ
mark_of d = if d.cloexec then 1 else 0

-- F_GETFL and F_SETFL: the access mode, and the status flags of the description
-- fcntl(2), File status flags
abbrev pub tells_status : OpenFile → Prog Answer
tells_status file = done (replies (pos (status_flags file.description)) [])

abbrev pub sets_status : Descriptor → (flags : ℕ) → OpenFile → Prog Answer
sets_status d flags file =
    done (replies (pos 0)
    ((OfDescription d.description, Some (record file { description = with_status file.description flags })) ∷ []))

-- by the command: F_DUPFD 0, F_GETFD 1, F_SETFD 2, F_GETFL 3, F_SETFL 4, F_DUPFD_CLOEXEC 1030
-- fcntl(2); Linux's asm-generic/fcntl.h; that no other is taken: profile
abbrev pub by_command : (command argument fd : ℕ) → Caller → Table → Descriptor → Prog Answer
by_command command argument fd c table d =
    if command == 0 then dupfd_of argument false c table d
    else if command == 1030 then dupfd_of argument true c table d
    else if command == 1 then done (replies (pos (mark_of d)) [])
    else if command == 2 then done (leaves_table c 0 (marked table fd (argument % 2 == 1)) [])
    else if command == 3 then with_file d.description tells_status
    else if command == 4 then with_file d.description (sets_status d argument)
    else done (refuses EINVAL)

-- fcntl(fd, command, argument): each is the low 32 bits
-- fcntl(2), ERRORS: EBADF, EINVAL, EMFILE; their order: profile
abbrev pub fcntl_row : (fd command argument : ℕ) → Caller → Prog Answer
fcntl_row fd command argument c =
    with_descriptor c fd (by_command (command % 2 ^ 32) (argument % 2 ^ 32) (descriptor fd) c)

-- ioctl(fd): nothing is a terminal
-- ioctl(2), ERRORS: EBADF, ENOTTY; profile
abbrev pub ioctl_row : (fd : ℕ) → Caller → Prog Answer
ioctl_row fd c = with_descriptor c fd (λ table d. done (refuses ENOTTY))

-- close(fd)
-- close(2), ERRORS: EBADF
abbrev pub close_row : (fd : ℕ) → Caller → Prog Answer
close_row fd c =
    with_descriptor c fd (λ table d. dropped d.description
    >>= λ changes. done (leaves_table c 0 (map.remove table (descriptor fd)) changes))
