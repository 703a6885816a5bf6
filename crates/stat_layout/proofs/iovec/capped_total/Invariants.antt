use Rattle.std.proofs.Common.{◌≡◌}
use Rattle.sn_base.specs.Sums.{capped}
use Rattle.stat_layout.specs.IoVecs.{first_iovecs, total_of}
use Rattle.stat_layout.proofs.iovec.capped_total.Given as goal

-- the total of the records that were looked at
abbrev pub invariant-loop-k : goal.invariant-loop-k
invariant-loop-k l = l.total ≡ capped (total_of (first_iovecs l.records l.k))
