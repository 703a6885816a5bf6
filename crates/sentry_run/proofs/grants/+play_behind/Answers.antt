-- One folder more is granted behind the mount at `/`, and comes back as it was.
use Rattle.std.proofs.Common.{◌+◌, ap, ◌∙◌, refl, subst, arith}
use Rattle.std.specs.Prelude.{Option}
use Rattle.host_node.specs.Tree.{Shape}
use Rattle.host_node.specs.Told.{Settles}
use Rattle.host_node.proofs.ToldLemmas.{settles_same}
use Rattle.image_walk.specs.Granted.{told_of}
use Rattle.sentry_run.proofs.Ends.{inner_played, played_more, played_stopped}
use Rattle.sentry_run.proofs.GivenBack.{can_settle}
use Rattle.sentry_run.proofs.GrantsBehind.{runs_inner, runs_more, runs_stopped}
use Rattle.sentry_run.proofs.MountsFrom.{can_behind, can_here}
use Rattle.sentry_run.proofs.grants.+play_behind.Goals as goal

pub grant_folder-requires-after_bounds : goal.grant_folder-requires-after_bounds
grant_folder-requires-after_bounds g t c κs live =
    (can_here c.args.mounts.now c.args.index c.at.result.now (g.W.HostWorld.told c.args.host.now) c.at.ensures
    c.requires.free).0

pub play_behind-played-requires-clause-free : goal.play_behind-played-requires-clause-free
play_behind-played-requires-clause-free g t c κs live =
    can_behind c.args.mounts.now c.args.index c.at.result.now (g.W.HostWorld.told c.args.host.now)
    (g.W.HostWorld.told c.grant_folder.new.host) c.requires.form c.at.ensures c.requires.free c.in-Ok.ensures.lends

pub settle-requires : goal.settle-requires
settle-requires g t c =
    can_settle c.at.result.now.folder.names (g.W.HostWorld.told c.args.host.now)
    (g.W.HostWorld.told c.play_behind-played.new.host) (g.W.Node.HostNode.told c.in-Ok.root)
    (g.W.Node.HostNode.count c.in-Ok.root) (g.W.Node.HostNode.what c.in-Ok.root) c.in-Ok.ensures.root
    (c.play_behind-played.ensures.world ∙ c.in-Ok.ensures.lends)

pub returns-then-index-len-clause-ended : goal.returns-then-index-len-clause-ended
returns-then-index-len-clause-ended g t c =
    let told = g.W.Node.HostNode.told in
    runs_inner c.args.mounts.now c.args.index (g.W.HostWorld.told c.args.host.now) (told c.args.granted.now.root)
    (told c.play_granted.new.granted.root) (told_of told c.play_granted.new.granted.lent.items) c.play_granted.result
    (c.if-index-len.true ∙ c.len.ensures) c.play_granted.ensures.inner c.play_granted.ensures.ended

pub returns-then-index-len-clause-played : goal.returns-then-index-len-clause-played
returns-then-index-len-clause-played g t c =
    let e = c.play_granted.ensures in
    inner_played c.args.mounts.now (g.W.HostWorld.count c.args.host.now) c.play_granted.result e.inner e.drawn e.trace
    e.numbers e.bound

pub returns-in-Ok-clause-world : goal.returns-in-Ok-clause-world
returns-in-Ok-clause-world g t c =
    let world = g.W.HostWorld.told in
    let told = g.W.Node.HostNode.told c.in-Ok.root in
    settles_same c.at.result.now.folder.names (world c.args.host.now) told (world c.settle.new.self)
    (g.W.Node.HostNode.count c.in-Ok.root) (g.W.Node.HostNode.what c.in-Ok.root) c.in-Ok.ensures.root
    (subst (λ (o : Option Shape). Settles c.at.result.now.folder.names o told (world c.settle.new.self))
    (c.play_behind-played.ensures.world ∙ c.in-Ok.ensures.lends) c.settle.ensures.tells)

pub returns-in-Ok-clause-ended : goal.returns-in-Ok-clause-ended
returns-in-Ok-clause-ended g t c =
    let told = g.W.Node.HostNode.told in
    let inner = c.play_behind-played in
    runs_more c.args.mounts.now c.args.index c.at.result.now (g.W.HostWorld.told c.args.host.now)
    (g.W.HostWorld.told c.grant_folder.new.host) (told c.args.granted.now.root) (told c.in-Ok.root)
    (told inner.new.granted.root) (told_of told inner.new.granted.lent.items)
    (g.W.Node.HostNode.count c.in-Ok.root) (g.W.Node.HostNode.what c.in-Ok.root) inner.result c.requires.form
    c.at.ensures c.in-Ok.ensures.root c.in-Ok.ensures.small c.in-Ok.ensures.lends inner.ensures.ended

pub returns-in-Ok-clause-played : goal.returns-in-Ok-clause-played
returns-in-Ok-clause-played g t c =
    let count = g.W.HostWorld.count in
    played_more c.args.mounts.now (count c.args.host.now) (count c.grant_folder.new.host)
    (count c.play_behind-played.new.host) (count c.settle.new.self) c.play_behind-played.result c.in-Ok.ensures.cause
    c.play_behind-played.ensures.played c.settle.ensures.faults

pub returns-in-Err-clause-ended : goal.returns-in-Err-clause-ended
returns-in-Err-clause-ended g t c =
    let told = g.W.Node.HostNode.told in
    runs_stopped c.args.mounts.now c.args.index c.at.result.now (g.W.HostWorld.told c.args.host.now)
    (told c.args.granted.now.root) (told c.args.granted.now.root) (told_of told c.args.granted.now.lent.items)
    c.in-Err.end c.stopped.result c.at.ensures c.in-Err.ensures.why refl (ap (told_of told) c.requires.lent)
    c.stopped.ensures.end (c.stopped.ensures.opening, c.stopped.ensures.trace)

pub returns-in-Err-clause-played : goal.returns-in-Err-clause-played
returns-in-Err-clause-played g t c =
    played_stopped c.args.mounts.now (g.W.HostWorld.count c.args.host.now)
    (g.W.HostWorld.count c.grant_folder.new.host) (c.args.index + 1) c.at.result.now.folder.names
    (g.W.HostWorld.told c.args.host.now) c.in-Err.end c.stopped.result c.in-Err.ensures.cause c.in-Err.ensures.why
    (omega arith) (omega (arith, c.requires.within, c.if-index-len.false, c.len.ensures)) c.stopped.ensures.end
    c.stopped.ensures.trace c.stopped.ensures.numbers
