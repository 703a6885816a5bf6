-- One folder more is granted, at `/` or before it; that at `/` is settled with the tree that it has then.
use Rattle.std.proofs.Common.{◌+◌, not, ap, ◌∙◌, arith}
use Rattle.sentry_run.proofs.Ends.{played_more, played_stopped}
use Rattle.sentry_run.proofs.GivenBack.{can_settle, is_root}
use Rattle.sentry_run.proofs.GrantsFrom.{can_settle_behind, plays_here, plays_more, plays_stopped}
use Rattle.sentry_run.proofs.MountsFrom.{can_behind, can_here, place_behind, rooted_behind, within_behind}
use Rattle.sentry_run.proofs.grants.+play_from.Goals as goal

pub grant_folder-requires-after_bounds : goal.grant_folder-requires-after_bounds
grant_folder-requires-after_bounds g t c κs live =
    (can_here c.args.mounts.now c.args.index c.at-mount.result.now (g.W.HostWorld.told c.args.host.now)
    c.at-mount.ensures c.requires.free).0

pub play_root-root-requires-clause-free : goal.play_root-root-requires-clause-free
play_root-root-requires-clause-free g t c κs live =
    can_behind c.args.mounts.now c.args.index c.at-mount.result.now (g.W.HostWorld.told c.args.host.now)
    (g.W.HostWorld.told c.grant_folder.new.host) c.requires.form c.at-mount.ensures c.requires.free
    c.in-Ok.ensures.lends

pub play_root-root-requires-clause-root : goal.play_root-root-requires-clause-root
play_root-root-requires-clause-root g t c κs live =
    is_root c.at-mount.result.now.folder.names (g.W.HostWorld.told c.args.host.now)
    (g.W.Node.HostNode.told c.in-Ok.root) (g.W.Node.HostNode.count c.in-Ok.root)
    (g.W.Node.HostNode.what c.in-Ok.root)
    (can_here c.args.mounts.now c.args.index c.at-mount.result.now (g.W.HostWorld.told c.args.host.now)
    c.at-mount.ensures c.requires.free).0 c.in-Ok.ensures.root

pub settle-requires : goal.settle-requires
settle-requires g t c =
    can_settle c.at-mount.result.now.folder.names (g.W.HostWorld.told c.args.host.now)
    (g.W.HostWorld.told c.play_root-root.new.host) (g.W.Node.HostNode.told c.in-Ok.root)
    (g.W.Node.HostNode.count c.in-Ok.root) (g.W.Node.HostNode.what c.in-Ok.root) c.in-Ok.ensures.root
    (c.play_root-root.ensures.world ∙ c.in-Ok.ensures.lends)

pub returns-then-is_none-clause-plays : goal.returns-then-is_none-clause-plays
returns-then-is_none-clause-plays g t c =
    let world = g.W.HostWorld.told in
    plays_here c.args.mounts.now c.args.index c.at-mount.result.now (world c.args.host.now)
    (world c.grant_folder.new.host) (world c.play_root-root.new.host) (g.W.Node.HostNode.told c.in-Ok.root)
    (g.W.Node.HostNode.told c.play_root-root.result.root) (world c.settle.new.self)
    (g.W.Node.HostNode.count c.in-Ok.root) (g.W.Node.HostNode.what c.in-Ok.root) c.play_root-root.result.played
    c.requires.form c.at-mount.ensures (c.is_none.ensures ∙ ap not c.if-is_none.true) c.requires.place
    c.in-Ok.ensures.root c.in-Ok.ensures.small c.in-Ok.ensures.lends c.play_root-root.ensures.world
    c.play_root-root.ensures.plays c.settle.ensures.tells

pub returns-then-is_none-clause-played : goal.returns-then-is_none-clause-played
returns-then-is_none-clause-played g t c =
    let count = g.W.HostWorld.count in
    played_more c.args.mounts.now (count c.args.host.now) (count c.grant_folder.new.host)
    (count c.play_root-root.new.host) (count c.settle.new.self) c.play_root-root.result.played c.in-Ok.ensures.cause
    c.play_root-root.ensures.played c.settle.ensures.faults

pub play_from-played-requires-clause-within : goal.play_from-played-requires-clause-within
play_from-played-requires-clause-within g t c κs live =
    within_behind c.args.mounts.now.mounts (c.args.index + 1)
    (rooted_behind c.args.mounts.now c.args.index c.at-mount.result.now c.at-mount.ensures
    (c.is_none.ensures ∙ ap not c.if-is_none.false) c.requires.rooted)

pub play_from-played-requires-clause-rooted : goal.play_from-played-requires-clause-rooted
play_from-played-requires-clause-rooted g t c κs live =
    rooted_behind c.args.mounts.now c.args.index c.at-mount.result.now c.at-mount.ensures
    (c.is_none.ensures ∙ ap not c.if-is_none.false) c.requires.rooted

pub play_from-played-requires-clause-place : goal.play_from-played-requires-clause-place
play_from-played-requires-clause-place g t c κs live =
    place_behind c.args.mounts.now c.args.index c.at-mount.result.now c.at-mount.ensures
    (c.is_none.ensures ∙ ap not c.if-is_none.false) c.requires.place

pub play_from-played-requires-clause-free : goal.play_from-played-requires-clause-free
play_from-played-requires-clause-free g t c κs live =
    can_behind c.args.mounts.now c.args.index c.at-mount.result.now (g.W.HostWorld.told c.args.host.now)
    (g.W.HostWorld.told c.grant_folder.new.host) c.requires.form c.at-mount.ensures c.requires.free
    c.in-Ok.ensures.lends

pub settle-requires-in-Ok : goal.settle-requires-in-Ok
settle-requires-in-Ok g t c =
    let world = g.W.HostWorld.told in
    can_settle_behind c.args.mounts.now c.args.index c.at-mount.result.now (world c.args.host.now)
    (world c.grant_folder.new.host) (world c.play_from-played.new.host) (g.W.Node.HostNode.told c.in-Ok.root)
    (g.W.Node.HostNode.count c.in-Ok.root) (g.W.Node.HostNode.what c.in-Ok.root) c.play_from-played.result
    c.requires.form c.at-mount.ensures
    (rooted_behind c.args.mounts.now c.args.index c.at-mount.result.now c.at-mount.ensures
    (c.is_none.ensures ∙ ap not c.if-is_none.false) c.requires.rooted)
    c.in-Ok.ensures.root c.in-Ok.ensures.small c.in-Ok.ensures.lends c.play_from-played.ensures.plays

pub returns-else-is_none-clause-plays : goal.returns-else-is_none-clause-plays
returns-else-is_none-clause-plays g t c =
    let world = g.W.HostWorld.told in
    plays_more c.args.mounts.now c.args.index c.at-mount.result.now (world c.args.host.now)
    (world c.grant_folder.new.host) (world c.play_from-played.new.host) (g.W.Node.HostNode.told c.in-Ok.root)
    (world c.settle-in-Ok.new.self) (g.W.Node.HostNode.count c.in-Ok.root) (g.W.Node.HostNode.what c.in-Ok.root)
    c.play_from-played.result c.requires.form c.at-mount.ensures (c.is_none.ensures ∙ ap not c.if-is_none.false)
    (rooted_behind c.args.mounts.now c.args.index c.at-mount.result.now c.at-mount.ensures
    (c.is_none.ensures ∙ ap not c.if-is_none.false) c.requires.rooted)
    c.in-Ok.ensures.root c.in-Ok.ensures.small c.in-Ok.ensures.lends c.play_from-played.ensures.plays
    c.settle-in-Ok.ensures.tells

pub returns-else-is_none-clause-played : goal.returns-else-is_none-clause-played
returns-else-is_none-clause-played g t c =
    let count = g.W.HostWorld.count in
    played_more c.args.mounts.now (count c.args.host.now) (count c.grant_folder.new.host)
    (count c.play_from-played.new.host) (count c.settle-in-Ok.new.self) c.play_from-played.result c.in-Ok.ensures.cause
    c.play_from-played.ensures.played c.settle-in-Ok.ensures.faults

pub returns-in-Err-clause-plays : goal.returns-in-Err-clause-plays
returns-in-Err-clause-plays g t c =
    plays_stopped c.args.mounts.now c.args.index c.at-mount.result.now (g.W.HostWorld.told c.args.host.now)
    (g.W.HostWorld.told c.grant_folder.new.host) c.in-Err.end c.stopped.result c.at-mount.ensures c.in-Err.ensures.why
    c.in-Err.ensures.same c.stopped.ensures.end (c.stopped.ensures.opening, c.stopped.ensures.trace)

pub returns-in-Err-clause-played : goal.returns-in-Err-clause-played
returns-in-Err-clause-played g t c =
    played_stopped c.args.mounts.now (g.W.HostWorld.count c.args.host.now)
    (g.W.HostWorld.count c.grant_folder.new.host) (c.args.index + 1) c.at-mount.result.now.folder.names
    (g.W.HostWorld.told c.args.host.now) c.in-Err.end c.stopped.result c.in-Err.ensures.cause c.in-Err.ensures.why
    (omega arith) (omega (arith, c.requires.within)) c.stopped.ensures.end c.stopped.ensures.trace
    c.stopped.ensures.numbers
