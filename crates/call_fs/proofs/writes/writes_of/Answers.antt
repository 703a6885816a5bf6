-- A pipe that is there, or isn't, and the console.
use Rattle.std.proofs.Common.{None, Some, ap}
use Rattle.std.specs.Prelude.{option_copied}
use Rattle.sn_errno.specs.declared.errno.Errno.TheVariants.{EBADF}
use Rattle.fd_table.specs.declared.description.Object.TheVariants.{Console, EmptyInput}
use Rattle.kernel_model.specs.calls.Answers.{refuses}
use Rattle.kernel_model.specs.calls.ReadWrite.{appended}
use Rattle.kernel_model.specs.calls.ReadWrite.{to_pipe, writes_of}
use Rattle.kernel_model.specs.entries.Parts.{done}
use Rattle.call_fs.proofs.Opened.{pipe_at}
use Rattle.call_fs.proofs.Transferring.{moves_alike}
use Rattle.call_fs.proofs.Writing.{to_pipe_of, written_to}
use Rattle.call_fs.proofs.writes.writes_of.Goals as goal

pub returns-in-None-clause-row : goal.returns-in-None-clause-row
returns-in-None-clause-row c caller k own shared bytes writing is =
    let d = c.args.opened.now.file.description in
    let name = c.in-PipeEnd.name in
    moves_alike (writes_of d.nonblock bytes d.object) (done (refuses EBADF)) c.denied-in-None.result caller k own shared
    (to_pipe_of k d.nonblock bytes d.object name c.in-PipeEnd.end None c.in-PipeEnd.is
    (pipe_at d.object name c.in-PipeEnd.end k.files _ None c.in-PipeEnd.is (ap option_copied c.in-None.is)
    writing.pipe))
    (c.denied-in-None.ensures.row caller k own shared writing.memory)

pub returns-in-Some-clause-row : goal.returns-in-Some-clause-row
returns-in-Some-clause-row c caller k own shared bytes writing is =
    let d = c.args.opened.now.file.description in
    let name = c.in-PipeEnd.name in
    let there = pipe_at d.object name c.in-PipeEnd.end k.files _ (Some c.in-Some.pipe.now) c.in-PipeEnd.is
    (ap option_copied c.in-Some.is) writing.pipe in
    moves_alike (writes_of d.nonblock bytes d.object) (done (to_pipe d.nonblock bytes name c.in-Some.pipe.now))
    c.to_pipe.result caller k own shared
    (to_pipe_of k d.nonblock bytes d.object name c.in-PipeEnd.end (Some c.in-Some.pipe.now) c.in-PipeEnd.is there)
    (c.to_pipe.ensures.row caller k own shared bytes writing.memory there is)

pub returns-in-Console-clause-row : goal.returns-in-Console-clause-row
returns-in-Console-clause-row c caller k own shared bytes writing is =
    let d = c.args.opened.now.file.description in
    moves_alike (writes_of d.nonblock bytes d.object) (done (appended bytes k.console)) c.to_console.result caller k own
    shared
    (written_to k d.nonblock bytes d.object Console c.in-Console.is)
    (c.to_console.ensures.row caller k own shared bytes writing.memory writing.console is)

pub returns-in-EmptyInput-clause-row : goal.returns-in-EmptyInput-clause-row
returns-in-EmptyInput-clause-row c caller k own shared bytes writing is =
    let d = c.args.opened.now.file.description in
    moves_alike (writes_of d.nonblock bytes d.object) (done (appended bytes k.console))
    c.to_console-in-EmptyInput.result caller k own shared
    (written_to k d.nonblock bytes d.object EmptyInput c.in-EmptyInput.is)
    (c.to_console-in-EmptyInput.ensures.row caller k own shared bytes writing.memory writing.console is)
