-- What is done to what is open, or to the console.
use Rattle.std.proofs.Common.{subst, sym}
use Rattle.call_fs.specs.CallEnd.{MayLack}
use Rattle.call_fs.proofs.Transferring.{console_done, files_done, on_err, on_ok}
use Rattle.call_fs.proofs.transfers.commit_transfer.Goals as goal

pub returns-in-Puts-clause-ok : goal.returns-in-Puts-clause-ok
returns-in-Puts-clause-ok c =
    on_ok c.put_bytes.result
    (λ does k areas files console.
    files_done c.args.transfer _ c.args.space.now k c.put_bytes.new.files c.args.console.now c.in-Puts.is console
    (does k areas files)) c.put_bytes.ensures.ok

pub returns-in-Appends-clause-ok : goal.returns-in-Appends-clause-ok
returns-in-Appends-clause-ok c =
    on_ok c.append_bytes.result
    (λ does k areas files console.
    console_done c.args.transfer _ c.args.space.now k c.args.files.now c.append_bytes.new.console c.in-Appends.is files
    (does k areas console)) c.append_bytes.ensures.ok

pub returns-in-Puts-clause-lacking : goal.returns-in-Puts-clause-lacking
returns-in-Puts-clause-lacking c = on_err c.put_bytes.result (subst MayLack (sym c.in-Puts.is) tt)

pub returns-in-Appends-clause-lacking : goal.returns-in-Appends-clause-lacking
returns-in-Appends-clause-lacking c = on_err c.append_bytes.result (subst MayLack (sym c.in-Appends.is) tt)
