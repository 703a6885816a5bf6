-- What is said from the kernel that the opening starts is said of the run.
use Rattle.run_replay.proofs.Sayings.{says_of}
use Rattle.run_replay.proofs.replays.replay_run.Goals as goal

pub returns-in-Ok : goal.returns-in-Ok
returns-in-Ok c =
    let run = c.args.outcome.now in
    says_of run c.args.trees.now c.args.flag c.args.text.now c.in-Some.mounts c.in-Some.is c.in-Ok.plain.kernel
    c.done_again.result c.in-Ok.ensures.ok (c.done_again.ensures run.mounts)
