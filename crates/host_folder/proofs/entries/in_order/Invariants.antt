-- The entries so far are listed, in order.
use Rattle.std.proofs.Common.{◌≡◌}
use Rattle.host_node.specs.Order.{IsAscending, names_of}
use Rattle.host_folder.proofs.entries.in_order.Given as goal

abbrev pub invariant-loop-entry : goal.invariant-loop-entry
invariant-loop-entry l =
    (goal.iterator-loop-entry).can_next l.entry-iterator × (goal.iterator-loop-entry).is_finite l.entry-iterator
    × (l.listing ≡ l.yielded)
    × IsAscending (names_of l.listing)
