use Rattle.std.proofs.Common.{◌≡◌, drop, map}
use Rattle.mm_space.specs.Handed.{area_in, in_hand}
use Rattle.mm_space.proofs.handed.Handed.get.Given as goal

abbrev pub invariant-loop-handed : goal.invariant-loop-handed
invariant-loop-handed l =
    area_in l.name (map in_hand (drop l.handed-index l.handed-items))
    ≡ area_in l.name (map in_hand l.fn.self.areas.items)
