-- The fresh numbers that are left stand as over the kernel before them.
use Rattle.std.proofs.Common.{◌≡◌, Some, take}
use Rattle.kernel_model.specs.declared.kernel.Kernel.{Kernel}
use Rattle.kernel_model.specs.laws.InPlace.{numbered}
use Rattle.node_numbers.proofs.numbering.unnumber_all.Given as goal

abbrev pub invariant-loop-index : goal.invariant-loop-index
invariant-loop-index l =
    (before : Kernel) → numbered l.fresh before ≡ Some l.fn.kernel
    → numbered (take l.index l.fresh) before ≡ Some l.kernel
