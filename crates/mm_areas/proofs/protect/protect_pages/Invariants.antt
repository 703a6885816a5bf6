use Rattle.std.proofs.Common.{◌≡◌, ℕ, ◌-◌, ◌<◌, ◌≤◌, get_or}
use Rattle.mm_areas.specs.declared.areas.Region.{Region}
use Rattle.mm_areas.specs.Protected.{IsProtected}
use Rattle.mm_areas.proofs.protect.protect_pages.Given as goal

abbrev pub invariant-loop-index : goal.invariant-loop-index
invariant-loop-index l = record {
  done : (k : ℕ) (d : Region) → k < l.index
      → IsProtected l.rights l.first (l.end - l.first) (get_or l.initial.regions k d) (get_or l.regions k d);
  rest : (k : ℕ) (d : Region) → l.index ≤ k → get_or l.regions k d ≡ get_or l.initial.regions k d;
}
