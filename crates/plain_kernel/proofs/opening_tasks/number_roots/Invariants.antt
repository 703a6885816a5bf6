-- The roots from a tree on have their numbers.
use Rattle.std.proofs.Common.{◌≡◌, ◌+◌, drop}
use Rattle.kernel_model.specs.opening.Opening.{rooted}
use Rattle.plain_kernel.proofs.opening_tasks.number_roots.Given as goal

abbrev pub invariant-loop-index : goal.invariant-loop-index
invariant-loop-index l = l.nodes ≡ rooted (l.index + 1) (drop l.index l.trees)
