-- What each call on what is open comes to, by its row in the table of calls.
use Rattle.std.proofs.Common.{◌≡◌, sym, subst}
use Rattle.sn_errno.specs.declared.calls.CallNo.{CallNo}
use Rattle.sn_errno.specs.declared.calls.CallNo.TheVariants.{Dup, Dup3, Fcntl, Ioctl, Close, Lseek, Pread64}
use Rattle.sn_errno.specs.declared.calls.CallNo.TheVariants.{Pwrite64}
use Rattle.kernel_model.specs.declared.caller.Caller.{Caller}
use Rattle.kernel_model.specs.declared.entry.Args.{Args}
use Rattle.kernel_model.specs.declared.kernel.Kernel.{Kernel}
use Rattle.kernel_model.specs.calls.Callers.{Context}
use Rattle.kernel_model.specs.calls.Table.{row_of_call}
use Rattle.kernel_calls.specs.Prepared.{AnswersKept}
use Rattle.kernel_calls.specs.declared.prepared.Prepared.{Prepared}
use Rattle.kernel_model.specs.calls.Lookups.{descriptor}
use Rattle.call_fs.proofs.Opened.{file_so, table_so}
use Rattle.call_fs.proofs.calls.asked_by.Goals as goal

-- of a call that is known
of_row : (context : Context) (caller : Caller) (k : Kernel) (args : Args) (call known : CallNo) (p : Prepared)
    → call ≡ known → AnswersKept (row_of_call context caller args known) p caller.group k
    → AnswersKept (row_of_call context caller args call) p caller.group k
of_row context caller k args call known p is answers =
    subst (λ n. AnswersKept (row_of_call context caller args n) p caller.group k) (sym is) answers

pub returns-in-Dup-clause-row : goal.returns-in-Dup-clause-row
returns-in-Dup-clause-row c context caller k table files =
    of_row context caller k c.args.args.now c.args.call Dup _ c.in-Dup.is
    (c.changes.ensures.row _ caller k caller.group table
    (c.dup.ensures.row caller k (table_so caller k c.args.table c.args.files.now table files _
    c.numbers_of.ensures)))

pub returns-in-Dup3-clause-row : goal.returns-in-Dup3-clause-row
returns-in-Dup3-clause-row c context caller k table files =
    of_row context caller k c.args.args.now c.args.call Dup3 _ c.in-Dup3.is
    (c.changes-in-Dup3.ensures.row _ caller k caller.group table
    (c.dup3.ensures.row caller k (table_so caller k c.args.table c.args.files.now table files _
    c.numbers_of-in-Dup3.ensures)))

pub returns-in-Fcntl-clause-row : goal.returns-in-Fcntl-clause-row
returns-in-Fcntl-clause-row c context caller k table files =
    of_row context caller k c.args.args.now c.args.call Fcntl _ c.in-Fcntl.is
    (c.changes-in-Fcntl.ensures.row _ caller k caller.group table
    (c.fcntl.ensures.row caller k (table_so caller k c.args.table c.args.files.now table files _
    c.numbers_of-in-Fcntl.ensures)
    (file_so caller k c.args.table c.args.files.now table files (descriptor c.args.args.now.a0) _
    c.open_file-file.ensures)))

pub returns-in-Ioctl-clause-row : goal.returns-in-Ioctl-clause-row
returns-in-Ioctl-clause-row c context caller k table files =
    of_row context caller k c.args.args.now c.args.call Ioctl _ c.in-Ioctl.is
    (c.changes-in-Ioctl.ensures.row _ caller k caller.group table
    (c.ioctl.ensures.row caller k (table_so caller k c.args.table c.args.files.now table files _
    c.numbers_of-in-Ioctl.ensures)))

pub returns-in-Close-clause-row : goal.returns-in-Close-clause-row
returns-in-Close-clause-row c context caller k table files =
    of_row context caller k c.args.args.now c.args.call Close _ c.in-Close.is
    (c.changes-in-Close.ensures.row _ caller k caller.group table
    (c.close.ensures.row caller k (table_so caller k c.args.table c.args.files.now table files _
    c.numbers_of-in-Close.ensures)))

pub returns-in-Lseek-clause-row : goal.returns-in-Lseek-clause-row
returns-in-Lseek-clause-row c context caller k table files =
    of_row context caller k c.args.args.now c.args.call Lseek _ c.in-Lseek.is
    (c.changes-in-Lseek.ensures.row _ caller k caller.group table
    (c.lseek.ensures.row c.args.args.now.a0 caller k (file_so caller k c.args.table c.args.files.now table files
    (descriptor c.args.args.now.a0) _ c.open_file.ensures)))

pub returns-in-Pread64-clause-row : goal.returns-in-Pread64-clause-row
returns-in-Pread64-clause-row c context caller k table files =
    of_row context caller k c.args.args.now c.args.call Pread64 _ c.in-Pread64.is
    (c.changes-in-Pread64.ensures.row _ caller k caller.group table
    (c.pread64.ensures.row c.args.args.now.a0 caller k (file_so caller k c.args.table c.args.files.now table files
    (descriptor c.args.args.now.a0) _ c.open_file-in-Pread64.ensures)))

pub returns-in-Pwrite64-clause-row : goal.returns-in-Pwrite64-clause-row
returns-in-Pwrite64-clause-row c context caller k table files =
    of_row context caller k c.args.args.now c.args.call Pwrite64 _ c.in-Pwrite64.is
    (c.changes-in-Pwrite64.ensures.row _ caller k caller.group table
    (c.pwrite64.ensures.row c.args.args.now.a0 caller k (file_so caller k c.args.table c.args.files.now table files
    (descriptor c.args.args.now.a0) _ c.open_file-in-Pwrite64.ensures)))
