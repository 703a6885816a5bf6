-- Each grant leaves one mount fewer behind it.
use Rattle.std.proofs.Common.{◌-◌, length}
use Rattle.sentry_run.proofs.grants.+play_from.Given as goal

abbrev pub decreases-play_from : goal.decreases-play_from
decreases-play_from g l = length l.mounts.now.mounts - l.index
