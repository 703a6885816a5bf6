-- The table of system calls: numbers, calls and names.
use Rattle.std.specs.Prelude.{ℕ, ◌==◌, List, [], ◌∷◌, ◌++◌, Option, option_map, unwrap_or, find, codes}
use Rattle.std.specs.Fmt.{decimal}
use Rattle.std.specs.Option.{option_map_or}
use denote.Enum.Bare.{sameb}
use Rattle.sn_errno.specs.contracts.calls.CallNo.{the_type}
use Rattle.sn_errno.specs.declared.calls.CallNo.{CallNo}
use Rattle.sn_errno.specs.declared.calls.CallNo.TheVariants.{Getcwd, Dup, Dup3, Fcntl, Ioctl, Mkdirat, Unlinkat}
use Rattle.sn_errno.specs.declared.calls.CallNo.TheVariants.{Symlinkat, Linkat, Ftruncate, Faccessat, Chdir, Openat}
use Rattle.sn_errno.specs.declared.calls.CallNo.TheVariants.{Close, Pipe2, Getdents64, Lseek, Read, Write, Readv}
use Rattle.sn_errno.specs.declared.calls.CallNo.TheVariants.{Writev, Pread64, Pwrite64, Readlinkat, Newfstatat, Fstat}
use Rattle.sn_errno.specs.declared.calls.CallNo.TheVariants.{Exit, ExitGroup, SetTidAddress, Futex, SetRobustList}
use Rattle.sn_errno.specs.declared.calls.CallNo.TheVariants.{ClockGettime, SchedYield, Kill, RtSigaction, RtSigprocmask}
use Rattle.sn_errno.specs.declared.calls.CallNo.TheVariants.{Uname, Getpid, Getppid, Getuid, Geteuid, Getgid, Getegid}
use Rattle.sn_errno.specs.declared.calls.CallNo.TheVariants.{Gettid, Brk, Munmap, Clone, Execve, Mmap, Mprotect, Wait4}
use Rattle.sn_errno.specs.declared.calls.CallNo.TheVariants.{Renameat2, Getrandom}

-- a row of the table: a call's number, the call and its name
-- Linux's asm-generic/unistd.h
abbrev pub CallRow : Type 0
CallRow = ℕ × CallNo × List ℕ

-- the calls that the kernel knows by name
-- Linux's asm-generic/unistd.h
abbrev pub calls : List CallRow
calls =
    (17, Getcwd, codes "getcwd")
    ∷ (23, Dup, codes "dup")
    ∷ (24, Dup3, codes "dup3")
    ∷ (25, Fcntl, codes "fcntl")
    ∷ (29, Ioctl, codes "ioctl")
    ∷ (34, Mkdirat, codes "mkdirat")
    ∷ (35, Unlinkat, codes "unlinkat")
    ∷ (36, Symlinkat, codes "symlinkat")
    ∷ (37, Linkat, codes "linkat")
    ∷ (46, Ftruncate, codes "ftruncate")
    ∷ (48, Faccessat, codes "faccessat")
    ∷ (49, Chdir, codes "chdir")
    ∷ (56, Openat, codes "openat")
    ∷ (57, Close, codes "close")
    ∷ (59, Pipe2, codes "pipe2")
    ∷ (61, Getdents64, codes "getdents64")
    ∷ (62, Lseek, codes "lseek")
    ∷ (63, Read, codes "read")
    ∷ (64, Write, codes "write")
    ∷ (65, Readv, codes "readv")
    ∷ (66, Writev, codes "writev")
    ∷ (67, Pread64, codes "pread64")
    ∷ (68, Pwrite64, codes "pwrite64")
    ∷ (78, Readlinkat, codes "readlinkat")
    ∷ (79, Newfstatat, codes "newfstatat")
    ∷ (80, Fstat, codes "fstat")
    ∷ (93, Exit, codes "exit")
    ∷ (94, ExitGroup, codes "exit_group")
    ∷ (96, SetTidAddress, codes "set_tid_address")
    ∷ (98, Futex, codes "futex")
    ∷ (99, SetRobustList, codes "set_robust_list")
    ∷ (113, ClockGettime, codes "clock_gettime")
    ∷ (124, SchedYield, codes "sched_yield")
    ∷ (129, Kill, codes "kill")
    ∷ (134, RtSigaction, codes "rt_sigaction")
    ∷ (135, RtSigprocmask, codes "rt_sigprocmask")
    ∷ (160, Uname, codes "uname")
    ∷ (172, Getpid, codes "getpid")
    ∷ (173, Getppid, codes "getppid")
    ∷ (174, Getuid, codes "getuid")
    ∷ (175, Geteuid, codes "geteuid")
    ∷ (176, Getgid, codes "getgid")
    ∷ (177, Getegid, codes "getegid")
    ∷ (178, Gettid, codes "gettid")
    ∷ (214, Brk, codes "brk")
    ∷ (215, Munmap, codes "munmap")
    ∷ (220, Clone, codes "clone")
    ∷ (221, Execve, codes "execve")
    ∷ (222, Mmap, codes "mmap")
    ∷ (226, Mprotect, codes "mprotect")
    ∷ (260, Wait4, codes "wait4")
    ∷ (276, Renameat2, codes "renameat2")
    ∷ (278, Getrandom, codes "getrandom")
    ∷ []

-- the row for a number, if there is one
-- Linux's asm-generic/unistd.h
unfoldable pub row_numbered : ℕ → Option CallRow
row_numbered number = find (λ row. row.0 == number) calls

-- the call with a number, or None where the table has no row for it
-- Linux's asm-generic/unistd.h
unfoldable pub call_numbered : ℕ → Option CallNo
call_numbered number = option_map (λ row. row.1) (row_numbered number)

-- the name of the call with a number, or None where the table has no row for it
-- Linux's asm-generic/unistd.h
unfoldable pub known_name : ℕ → Option (List ℕ)
known_name number = option_map (λ row. row.2) (row_numbered number)

-- the first row with a call: its only one
-- Linux's asm-generic/unistd.h
abbrev pub row_for : CallNo → Option CallRow
row_for call = find (λ row. sameb the_type row.1 call) calls

-- the name in the row with a call
-- Linux's asm-generic/unistd.h
abbrev pub name_for : CallNo → List ℕ
name_for call = option_map_or (λ row. row.2) (row_for call) []

-- what a call is printed as: its name, or else `call` and its number
-- profile
unfoldable pub call_name : ℕ → List ℕ
call_name number = unwrap_or (known_name number) (codes "call" ++ decimal number)
