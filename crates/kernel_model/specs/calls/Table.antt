-- The table of system calls: the row of each call that the kernel has.
use Rattle.std.specs.Prelude.{ℕ, Option, Some, None}
use Rattle.sn_errno.specs.declared.errno.Errno.TheVariants.{ENOSYS}
use Rattle.sn_errno.specs.declared.calls.CallNo.{CallNo}
use Rattle.sn_errno.specs.declared.calls.CallNo.TheVariants.{Write, Exit, ExitGroup, SetTidAddress, SetRobustList}
use Rattle.sn_errno.specs.declared.calls.CallNo.TheVariants.{Futex, ClockGettime, Clone, Wait4}
use Rattle.sn_errno.specs.declared.calls.CallNo.TheVariants.{SchedYield, Uname, Getpid, Getppid, Getuid, Geteuid}
use Rattle.sn_errno.specs.declared.calls.CallNo.TheVariants.{Getgid, Getegid, Gettid, Brk, Munmap, Mmap, Mprotect}
use Rattle.sn_errno.specs.declared.calls.CallNo.TheVariants.{Getrandom}
use Rattle.sn_errno.specs.declared.calls.CallNo.TheVariants.{Dup, Dup3, Fcntl, Ioctl, Close, Lseek, Pread64, Pwrite64}
use Rattle.sn_errno.specs.declared.calls.CallNo.TheVariants.{Pipe2, Read, Readv, Writev}
use Rattle.sn_errno.specs.Calls.{call_numbered}
use Rattle.kernel_model.specs.declared.caller.Caller.{Caller}
use Rattle.kernel_model.specs.declared.entry.Args.{Args}
use Rattle.kernel_model.specs.calls.Answers.{Answer, refuses}
use Rattle.kernel_model.specs.calls.Callers.{Context}
use Rattle.kernel_model.specs.calls.Clone.{clone_row}
use Rattle.kernel_model.specs.calls.Descriptors.{close_row, dup3_row, dup_row, fcntl_row, ioctl_row}
use Rattle.kernel_model.specs.calls.Ending.{exit_row, exit_group_row, set_tid_address_row, set_robust_list_row}
use Rattle.kernel_model.specs.calls.Futex.{futex_row}
use Rattle.kernel_model.specs.calls.Identity.{getpid_row, getppid_row, gettid_row, owner_row, uname_row}
use Rattle.kernel_model.specs.calls.Memory.{brk_row, munmap_row, mmap_row, mprotect_row}
use Rattle.kernel_model.specs.calls.Pipes.{pipe2_row}
use Rattle.kernel_model.specs.calls.RandomBytes.{getrandom_row}
use Rattle.kernel_model.specs.calls.ReadWrite.{read_row, readv_row, write_row, writev_row}
use Rattle.kernel_model.specs.calls.Seek.{lseek_row, pread64_row, pwrite64_row}
use Rattle.kernel_model.specs.calls.Time.{clock_gettime_row, sched_yield_row}
use Rattle.kernel_model.specs.calls.Wait.{wait4_row}
use Rattle.kernel_model.specs.entries.Parts.{Prog, done}

-- the row of a call; one that the kernel does not have answers ENOSYS
-- syscall(2)
abbrev pub row_of_call : Context → Caller → Args → CallNo → Prog Answer
row_of_call context caller args Dup = dup_row args.a0 caller
row_of_call context caller args Dup3 = dup3_row args.a0 args.a1 args.a2 caller
row_of_call context caller args Fcntl = fcntl_row args.a0 args.a1 args.a2 caller
row_of_call context caller args Ioctl = ioctl_row args.a0 caller
row_of_call context caller args Close = close_row args.a0 caller
row_of_call context caller args Pipe2 = pipe2_row context args.a0 args.a1 caller
row_of_call context caller args Lseek = lseek_row args.a0 caller
row_of_call context caller args Read = read_row args.a0 args.a1 args.a2 caller
row_of_call context caller args Write = write_row args.a0 args.a1 args.a2 caller
row_of_call context caller args Readv = readv_row args.a0 args.a1 args.a2 caller
row_of_call context caller args Writev = writev_row args.a0 args.a1 args.a2 caller
row_of_call context caller args Pread64 = pread64_row args.a0 caller
row_of_call context caller args Pwrite64 = pwrite64_row args.a0 caller
row_of_call context caller args Exit = exit_row args.a0 caller
row_of_call context caller args ExitGroup = exit_group_row args.a0 caller
row_of_call context caller args SetTidAddress = set_tid_address_row args.a0 caller
row_of_call context caller args Futex = futex_row args.a0 args.a1 args.a2 args.a3 caller
row_of_call context caller args SetRobustList = set_robust_list_row
row_of_call context caller args ClockGettime = clock_gettime_row context args.a0 args.a1 caller
row_of_call context caller args SchedYield = sched_yield_row
row_of_call context caller args Uname = uname_row args.a0 caller
row_of_call context caller args Getpid = getpid_row caller
row_of_call context caller args Getppid = getppid_row caller
row_of_call context caller args Getuid = owner_row
row_of_call context caller args Geteuid = owner_row
row_of_call context caller args Getgid = owner_row
row_of_call context caller args Getegid = owner_row
row_of_call context caller args Gettid = gettid_row caller
row_of_call context caller args Brk = brk_row args.a0 caller
row_of_call context caller args Munmap = munmap_row args.a0 args.a1 caller
row_of_call context caller args Clone = clone_row context args caller
row_of_call context caller args Mmap = mmap_row context args.a0 args.a1 args.a2 args.a3 args.a4 args.a5 caller
row_of_call context caller args Mprotect = mprotect_row args.a0 args.a1 args.a2 caller
row_of_call context caller args Wait4 = wait4_row args.a0 args.a1 args.a2 args.a3 caller
row_of_call context caller args Getrandom = getrandom_row context args.a0 args.a1 args.a2 caller
row_of_call context caller args _ = done (refuses ENOSYS)

-- the row of a call by its number in the table of calls; a number that the table lacks answers ENOSYS
-- syscall(2)
abbrev pub row_if_known : Context → Caller → Args → Option CallNo → Prog Answer
row_if_known context caller args None = done (refuses ENOSYS)
row_if_known context caller args (Some call) = row_of_call context caller args call

abbrev pub call_row : Context → Caller → (number : ℕ) → Args → Prog Answer
call_row context caller number args = row_if_known context caller args (call_numbered number)
