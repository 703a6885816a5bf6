use Rattle.std.proofs.Common.{◌≡◌, take}
use Rattle.sn_base.specs.Sums.{capped}
use Rattle.stat_layout.specs.IoVecs.{total_of}
use Rattle.stat_layout.proofs.iovec.total.Given as goal

-- the total of the buffers that were looked at
abbrev pub invariant-loop-buffer : goal.invariant-loop-buffer
invariant-loop-buffer l = l.total ≡ capped (total_of (take l.buffer-index l.buffers))
