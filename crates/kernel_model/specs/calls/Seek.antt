-- lseek, pread64 and pwrite64: which objects have a position.
use Rattle.std.specs.Prelude.{ℕ}
use Rattle.sn_errno.specs.declared.errno.Errno.TheVariants.{ENOSYS, ESPIPE}
use Rattle.fd_table.specs.Flags.{may_read, may_write}
use Rattle.fd_table.specs.declared.description.Object.{Object}
use Rattle.fd_table.specs.declared.description.Object.TheVariants.{Node, PipeEnd, Console, EmptyInput}
use Rattle.kernel_model.specs.declared.caller.Caller.{Caller}
use Rattle.kernel_model.specs.calls.Answers.{Answer, refuses}
use Rattle.kernel_model.specs.calls.Lookups.{opened_for, with_descriptor, with_file}
use Rattle.kernel_model.specs.entries.Parts.{Prog, done}

-- a call at a position: a pipe, the console and the empty input have none, and no node is open so far
-- lseek(2), pread(2), ERRORS: ESPIPE; profile
abbrev pub positioned : Object → Prog Answer
positioned (Node ino) = done (refuses ENOSYS)
positioned (PipeEnd name side) = done (refuses ESPIPE)
positioned Console = done (refuses ESPIPE)
positioned EmptyInput = done (refuses ESPIPE)

-- lseek(fd)
-- lseek(2), ERRORS: EBADF, ESPIPE; their order: profile
abbrev pub lseek_row : (fd : ℕ) → Caller → Prog Answer
lseek_row fd c =
    with_descriptor c fd (λ table d. with_file d.description (λ file. positioned file.description.object))

-- pread64(fd), pwrite64(fd)
-- pread(2), ERRORS: EBADF, ESPIPE
abbrev pub pread64_row : (fd : ℕ) → Caller → Prog Answer
pread64_row fd c = opened_for may_read c fd (λ d. positioned d.object)

abbrev pub pwrite64_row : (fd : ℕ) → Caller → Prog Answer
pwrite64_row fd c = opened_for may_write c fd (λ d. positioned d.object)
