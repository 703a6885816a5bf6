use Rattle.std.proofs.Common.{◌≡◌}
use Rattle.stat_layout.specs.IoVecs.{first_iovecs}
use Rattle.stat_layout.proofs.iovec.read_iovecs.Given as goal

-- the records that were read
abbrev pub invariant-loop-k : goal.invariant-loop-k
invariant-loop-k l = l.buffers ≡ first_iovecs l.records l.k
