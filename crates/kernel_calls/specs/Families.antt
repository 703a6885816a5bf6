-- Which calls are on what is open, and which of the others always reply.
use Rattle.std.specs.Prelude.{Bool, true, false, not, Option, Some, None}
use Rattle.sn_errno.specs.declared.calls.CallNo.{CallNo}
use Rattle.sn_errno.specs.declared.calls.CallNo.TheVariants.{Dup, Dup3, Fcntl, Ioctl, Close, Pipe2, Lseek, Read, Write}
use Rattle.sn_errno.specs.declared.calls.CallNo.TheVariants.{Readv, Writev, Pread64, Pwrite64}
use Rattle.sn_errno.specs.declared.calls.CallNo.TheVariants.{Clone, Futex, Wait4}

-- whether a call is one on the descriptors that its caller has
-- dup(2), fcntl(2), ioctl(2), close(2), pipe(2), lseek(2), read(2), write(2), readv(2), pread(2)
abbrev pub is_on_files : Option CallNo → Bool
is_on_files None = false
is_on_files (Some Dup) = true
is_on_files (Some Dup3) = true
is_on_files (Some Fcntl) = true
is_on_files (Some Ioctl) = true
is_on_files (Some Close) = true
is_on_files (Some Pipe2) = true
is_on_files (Some Lseek) = true
is_on_files (Some Read) = true
is_on_files (Some Write) = true
is_on_files (Some Readv) = true
is_on_files (Some Writev) = true
is_on_files (Some Pread64) = true
is_on_files (Some Pwrite64) = true
is_on_files (Some _) = false

-- whether a call that is on no descriptors replies whatever there is: none but these three makes, sleeps or waits
-- clone(2); futex(2), FUTEX_WAIT; wait4(2)
abbrev pub always_replies : CallNo → Bool
always_replies Clone = false
always_replies Futex = false
always_replies Wait4 = false
always_replies call = not (is_on_files (Some call))
