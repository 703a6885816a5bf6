-- What was cut, and what is left to cut.
use Rattle.std.proofs.Common.{◌≡◌, ◌++◌, drop}
use Rattle.kernel_model.specs.calls.Vectors.{cut}
use Rattle.call_fs.proofs.vectors.cut_all.Given as goal

abbrev pub invariant-loop-buffer : goal.invariant-loop-buffer
invariant-loop-buffer l = l.first ++ cut l.left (drop l.buffer-index l.buffers) ≡ cut 65536 l.buffers
