-- Errors as numbers and as replies.
use Rattle.std.specs.Prelude.{ℕ, ◌-◌, ℤ, negsuc}
use Rattle.sn_errno.specs.declared.errno.Errno.{Errno}
use Rattle.sn_errno.specs.declared.errno.Errno.TheVariants.{EPERM, ENOENT, ESRCH, EINTR, EIO, E2BIG, ENOEXEC, EBADF}
use Rattle.sn_errno.specs.declared.errno.Errno.TheVariants.{ECHILD, EAGAIN, ENOMEM, EACCES, EFAULT, EBUSY, EEXIST}
use Rattle.sn_errno.specs.declared.errno.Errno.TheVariants.{EXDEV, ENODEV, ENOTDIR, EISDIR, EINVAL, ENFILE, EMFILE}
use Rattle.sn_errno.specs.declared.errno.Errno.TheVariants.{ENOTTY, EFBIG, ENOSPC, ESPIPE, EROFS, EMLINK, EPIPE, ERANGE}
use Rattle.sn_errno.specs.declared.errno.Errno.TheVariants.{ENAMETOOLONG, ENOSYS, ENOTEMPTY, ELOOP}

-- an error's number
-- errno(3); Linux's asm-generic/errno-base.h and errno.h
abbrev pub number_of : Errno → ℕ
number_of EPERM = 1
number_of ENOENT = 2
number_of ESRCH = 3
number_of EINTR = 4
number_of EIO = 5
number_of E2BIG = 7
number_of ENOEXEC = 8
number_of EBADF = 9
number_of ECHILD = 10
number_of EAGAIN = 11
number_of ENOMEM = 12
number_of EACCES = 13
number_of EFAULT = 14
number_of EBUSY = 16
number_of EEXIST = 17
number_of EXDEV = 18
number_of ENODEV = 19
number_of ENOTDIR = 20
number_of EISDIR = 21
number_of EINVAL = 22
number_of ENFILE = 23
number_of EMFILE = 24
number_of ENOTTY = 25
number_of EFBIG = 27
number_of ENOSPC = 28
number_of ESPIPE = 29
number_of EROFS = 30
number_of EMLINK = 31
number_of EPIPE = 32
number_of ERANGE = 34
number_of ENAMETOOLONG = 36
number_of ENOSYS = 38
number_of ENOTEMPTY = 39
number_of ELOOP = 40

-- the reply of a call that fails: the error's number, negative
-- intro(2); syscall(2)
abbrev pub reply_of : Errno → ℤ
reply_of e = negsuc (number_of e - 1)
