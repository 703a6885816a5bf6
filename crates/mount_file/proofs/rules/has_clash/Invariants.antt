use Rattle.std.proofs.Common.{◌≡◌, length}
use Rattle.mount_file.specs.Rules.{has_clash}
use Rattle.mount_file.proofs.rules.has_clash.Given as goal

abbrev pub invariant-loop-rest : goal.invariant-loop-rest
invariant-loop-rest l = has_clash l.mounts ≡ has_clash l.rest

abbrev pub decreases-loop-rest : goal.decreases-loop-rest
decreases-loop-rest l = length l.rest
