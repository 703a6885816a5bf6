-- The entries so far are seen.
use Rattle.host_folder.specs.Entries.{AreSeen}
use Rattle.host_folder.proofs.seen.see_all.Given as goal

abbrev pub invariant-loop-entry : goal.invariant-loop-entry
invariant-loop-entry g l =
    (goal.iterator-loop-entry g).can_next l.entry-iterator × (goal.iterator-loop-entry g).is_finite l.entry-iterator
    × AreSeen l.yielded l.seen.items
