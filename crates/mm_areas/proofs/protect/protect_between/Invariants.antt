use Rattle.std.proofs.Common.{◌≡◌, ◌-◌, map}
use Rattle.mm_areas.specs.Pages.{mapped_by}
use Rattle.mm_areas.specs.Protected.{protected_from}
use Rattle.mm_areas.proofs.protect.protect_between.Given as goal

abbrev pub invariant-loop-index : goal.invariant-loop-index
invariant-loop-index l = record {
  mapped : map mapped_by l.pages ≡ protected_from l.rights l.low (l.index - l.low) 0 (map mapped_by l.initial.pages);
  contents : map (λ p. p.content) l.pages ≡ map (λ p. p.content) l.initial.pages;
}
