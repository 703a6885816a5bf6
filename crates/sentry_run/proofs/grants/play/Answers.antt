-- All folders can be granted, from the first on.
use Rattle.sentry_run.proofs.Folders.{can_ungranted}
use Rattle.sentry_run.proofs.GrantsFrom.{plays_all}
use Rattle.sentry_run.proofs.grants.play.Goals as goal

pub play_from-requires-clause-free : goal.play_from-requires-clause-free
play_from-requires-clause-free g c κs live =
    can_ungranted c.args.mounts.now.mounts (g.W.HostWorld.told c.args.host.now) c.requires.ungranted

pub returns-clause-plays : goal.returns-clause-plays
returns-clause-plays g c =
    plays_all c.args.mounts.now (g.W.HostWorld.told c.args.host.now) (g.W.HostWorld.told c.play_from.new.host)
    c.play_from.result c.play_from.ensures.plays
