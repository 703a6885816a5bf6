-- The areas of the last places are copied, and all of them are as they were.
use Rattle.std.proofs.Common.{◌≡◌, drop}
use Rattle.kernel_model.proofs.AreaCopies.{of_keys}
use Rattle.kernel_model.proofs.area_copies.Named+GuestArea.copy.Given as goal

abbrev pub invariant-loop-index : goal.invariant-loop-index
invariant-loop-index l =
    (l.self-inside.places ≡ l.fn.self) × (l.places ≡ of_keys l.fn.self (drop l.index l.keys-inside.items.items))
