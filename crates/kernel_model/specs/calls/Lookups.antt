-- What a caller's descriptors stand for.
use Rattle.std.specs.Prelude.{ℕ, ◌-◌, ◌%◌, ◌^◌, Bool, not, Option, Some, None, find, if◌then◌else◌}
use Rattle.std.specs.List.{range_with_len}
use Rattle.std.specs.FinMap as map
use Rattle.sn_errno.specs.declared.errno.Errno.{Errno}
use Rattle.sn_errno.specs.declared.errno.Errno.TheVariants.{EBADF}
use Rattle.fd_table.specs.Tables.{Table}
use Rattle.fd_table.specs.declared.table.TheConstants.{OPEN_MAX}
use Rattle.fd_table.specs.declared.description.Description.{Description}
use Rattle.fd_table.specs.declared.descriptor.Descriptor.{Descriptor}
use Rattle.fd_table.specs.declared.flags.AccessMode.{AccessMode}
use Rattle.sn_base.specs.declared.made.Made.{Made}
use Rattle.kernel_model.specs.declared.caller.Caller.{Caller}
use Rattle.kernel_model.specs.declared.kernel.Part.TheVariants.{OfTable, OfDescription}
use Rattle.kernel_model.specs.declared.open_files.OpenFile.{OpenFile}
use Rattle.kernel_model.specs.calls.Answers.{Answer, refuses}
use Rattle.kernel_model.specs.entries.Parts.{Prog, done, look}

-- a descriptor is the low 32 bits of its register
-- the C calling convention of int
abbrev pub descriptor : ℕ → ℕ
descriptor register = register % 2 ^ 32

-- what is there goes on, and else the call is refused
-- syscall(2)
abbrev pub or_refuse : {A : Type 0} → Errno → (A → Prog Answer) → Option A → Prog Answer
or_refuse errno row None = done (refuses errno)
or_refuse errno row (Some x) = row x

-- the caller's table; where that is not there nothing is open
-- open(2), DESCRIPTION
abbrev pub with_callers_table : Caller → (Table → Prog Answer) → Prog Answer
with_callers_table c row = look (OfTable c.table) (or_refuse EBADF row)

-- the lowest number at or above another that is not open
-- open(2), DESCRIPTION; dup(2); fcntl(2), F_DUPFD
abbrev pub lowest_free : Table → (from : ℕ) → Option ℕ
lowest_free table from = find (λ n. not (map.contains_key table n)) (range_with_len from (OPEN_MAX - from))

-- what a register's descriptor stands for, or EBADF
-- close(2), dup(2), fcntl(2), ioctl(2), lseek(2), ERRORS: EBADF
abbrev pub with_descriptor : Caller → (fd : ℕ) → (Table → Descriptor → Prog Answer) → Prog Answer
with_descriptor c fd row = with_callers_table c (λ table. or_refuse EBADF (row table) (map.get table (descriptor fd)))

abbrev pub with_file : Made → (OpenFile → Prog Answer) → Prog Answer
with_file name row = look (OfDescription name) (or_refuse EBADF row)

-- an open file whose access lets the caller do so
-- read(2), EBADF: not open for reading; write(2), EBADF: not open for writing
abbrev pub if_may : (AccessMode → Bool) → (Description → Prog Answer) → OpenFile → Prog Answer
if_may may row file = if may file.description.access then row file.description else done (refuses EBADF)

abbrev pub opened_for : (AccessMode → Bool) → Caller → (fd : ℕ) → (Description → Prog Answer) → Prog Answer
opened_for may c fd row = with_descriptor c fd (λ table d. with_file d.description (if_may may row))
