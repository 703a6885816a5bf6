-- Each grant leaves one mount fewer behind it.
use Rattle.std.proofs.Common.{◌-◌, length}
use Rattle.sentry_run.proofs.grants.+play_behind.Given as goal

abbrev pub decreases-play_behind : goal.decreases-play_behind
decreases-play_behind g l = length l.mounts.now.mounts - l.index
