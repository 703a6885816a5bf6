-- The areas of the last keys are copied, and all of them are as they were.
use Rattle.std.proofs.Common.{◌≡◌, drop}
use Rattle.kernel_model.proofs.AreaCopies.{of_keys}
use Rattle.kernel_model.proofs.area_copies.copied.Given as goal

abbrev pub invariant-loop-index : goal.invariant-loop-index
invariant-loop-index l = (l.made ≡ l.fn.made) × (l.areas ≡ of_keys l.fn.made (drop l.index l.keys-inside.items.items))
