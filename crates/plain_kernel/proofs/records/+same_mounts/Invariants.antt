-- Each pair of mounts is compared once.
use Rattle.std.proofs.Common.{length}
use Rattle.plain_kernel.proofs.records.+same_mounts.Given as goal

abbrev pub decreases-same_mounts : goal.decreases-same_mounts
decreases-same_mounts l = length l.a.now
