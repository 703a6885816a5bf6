use Rattle.std.proofs.Common.{◌≡◌, ◌-◌, map, [], ◌∷◌}
use Rattle.lisafs_wire.specs.Fields.{Name}
use Rattle.lisafs_wire.specs.Messages.{name_group}
use Rattle.lisafs_wire.specs.Reading.{groups_at}
use Rattle.lisafs_wire.proofs.Loop.{with_front}
use Rattle.lisafs_wire.proofs.requests.names_of.Given as goal

abbrev pub invariant-loop : goal.invariant-loop
invariant-loop l =
    with_front (map name_group l.names) (groups_at (Name ∷ []) (l.count - l.counter) l.rest)
    ≡ groups_at (Name ∷ []) l.count l.bytes
