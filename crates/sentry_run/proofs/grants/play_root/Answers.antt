-- The nodes are back, and the root then tells what the run left.
use Rattle.image_walk.specs.Granted.{told_of}
use Rattle.sentry_run.proofs.GrantsBehind.{plays_root}
use Rattle.sentry_run.proofs.grants.play_root.Goals as goal

pub returns-clause-plays : goal.returns-clause-plays
returns-clause-plays g c =
    let told = g.W.Node.HostNode.told in
    let run = c.play_behind-played in
    plays_root c.args.mounts.now c.args.index (g.W.HostWorld.told c.args.host.now) (told c.args.root)
    (told c.new-granted.result.root) (told run.new.granted.root) (told c.give_back.result)
    (told_of told run.new.granted.lent.items) run.result c.new-granted.ensures.root run.ensures.tells
    c.give_back.ensures.tells run.ensures.ended
