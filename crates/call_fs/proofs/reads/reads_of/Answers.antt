-- A pipe that isn't there.
use Rattle.std.proofs.Common.{None, ap}
use Rattle.std.specs.Prelude.{option_copied}
use Rattle.sn_errno.specs.declared.errno.Errno.TheVariants.{EBADF}
use Rattle.kernel_model.specs.calls.Answers.{refuses}
use Rattle.kernel_model.specs.calls.ReadWrite.{reads_of}
use Rattle.kernel_model.specs.entries.Parts.{done}
use Rattle.call_fs.proofs.Opened.{pipe_at}
use Rattle.call_fs.proofs.Reading.{of_pipe}
use Rattle.call_fs.proofs.Transferring.{moves_alike}
use Rattle.call_fs.proofs.reads.reads_of.Goals as goal

pub returns-in-None-clause-row : goal.returns-in-None-clause-row
returns-in-None-clause-row c caller k reading =
    let a = c.args in
    let d = a.opened.now.file.description in
    let name = c.in-PipeEnd.name in
    moves_alike (reads_of caller d.nonblock a.buffers.now d.object) (done (refuses EBADF)) c.denied-in-None.result
    caller k a.space.now a.areas.now
    (of_pipe caller k d.nonblock a.buffers.now d.object name c.in-PipeEnd.end None c.in-PipeEnd.is
    (pipe_at d.object name c.in-PipeEnd.end k.files _ None c.in-PipeEnd.is (ap option_copied c.in-None.is)
    reading.pipe))
    (c.denied-in-None.ensures.row caller k a.space.now a.areas.now reading.memory)
