-- Bytes that were put into a pipe that is there, or nothing was.
use Rattle.std.proofs.Common.{sym}
use Rattle.kernel_model.specs.calls.Vectors.{gathered}
use Rattle.kernel_model.specs.entries.Parts.{outcome_in, parts}
use Rattle.guest_access.proofs.KernelAreas.{are_those}
use Rattle.call_fs.specs.Records.{buffers_in}
use Rattle.call_fs.proofs.Transferring.{bytes_put, on_err, same_pipe}
use Rattle.call_fs.proofs.transfers.put_bytes.Goals as goal

pub returns-in_err-put_from-in-Some-clause-err : goal.returns-in_err-put_from-in-Some-clause-err
returns-in_err-put_from-in-Some-clause-err c =
    on_err c.from_residual.result
    (same_pipe c.args.pipe c.args.files.now c.in-Some.pipe.now c.put_from.new.pipe (sym c.in-Some.ensures.value)
    c.in_err-put_from-in-Some.ensures.err)

pub returns-in_ok-put_from-in-Some-clause-ok : goal.returns-in_ok-put_from-in-Some-clause-ok
returns-in_ok-put_from-in-Some-clause-ok c k areas files =
    let a = c.args in
    bytes_put a.pipe a.files.now c.in-Some.pipe.now c.put_from.new.pipe (sym c.in-Some.ensures.value) k a.taken
    (outcome_in (parts k) (gathered a.space.now (buffers_in a.from.now))) c.in_ok-put_from-in-Some.field-0 files
    (c.in_ok-put_from-in-Some.ensures.sent (parts k) (are_those k a.areas.now areas))
