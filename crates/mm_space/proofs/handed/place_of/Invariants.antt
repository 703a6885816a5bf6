use Rattle.std.proofs.Common.{◌≡◌, ◌+◌, drop}
use Rattle.std.specs.Prelude.{option_map}
use Rattle.mm_space.specs.Places.{place_of}
use Rattle.mm_space.proofs.handed.place_of.Given as goal

abbrev pub invariant-loop-handed : goal.invariant-loop-handed
invariant-loop-handed l =
    (l.place ≡ l.handed-index)
    × (option_map (λ n. l.place + n) (place_of l.name (drop l.handed-index l.areas)) ≡ place_of l.name l.fn.areas)
