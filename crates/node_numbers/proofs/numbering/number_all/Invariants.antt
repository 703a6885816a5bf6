-- The fresh numbers so far are given.
use Rattle.std.proofs.Common.{◌≡◌, Some, take}
use Rattle.kernel_model.specs.laws.InPlace.{numbered}
use Rattle.node_numbers.proofs.numbering.number_all.Given as goal

abbrev pub invariant-loop-done : goal.invariant-loop-done
invariant-loop-done l = numbered (take l.done l.fresh) l.fn.kernel ≡ Some l.kernel
