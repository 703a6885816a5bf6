use Rattle.std.proofs.Common.{◌≡◌, ℕ, ◌-◌, ◌≤◌, true}
use Rattle.mm_space.specs.Places.{takes_no_memory, is_ready_at}
use Rattle.mm_space.specs.Spaces.{reach}
use Rattle.mm_space.proofs.space.Space.own_run.Given as goal

abbrev pub invariant-loop-done : goal.invariant-loop-done
invariant-loop-done l = record {
  within : l.done ≤ l.count;
  same : reach l.self l.handed ≡ reach l.initial.self l.initial.handed;
  ready : takes_no_memory l.self l.handed l.at l.done ≡ true;
  still : (other : ℕ) → is_ready_at l.initial.self l.initial.handed other ≡ true
      → is_ready_at l.self l.handed other ≡ true;
}

abbrev pub decreases-loop-done : goal.decreases-loop-done
decreases-loop-done l = l.count - l.done
