use Rattle.std.proofs.Common.{◌≡◌, ◌-◌, map, ◌∷◌}
use Rattle.lisafs_wire.specs.Grammar.{attr, fd}
use Rattle.lisafs_wire.specs.Messages.{node_group}
use Rattle.lisafs_wire.specs.Reading.{groups_at}
use Rattle.lisafs_wire.proofs.Loop.{with_front}
use Rattle.lisafs_wire.proofs.answers.nodes_of.Given as goal

abbrev pub invariant-loop : goal.invariant-loop
invariant-loop l =
    with_front (map node_group l.nodes) (groups_at (fd ∷ attr) (l.count - l.counter) l.rest)
    ≡ groups_at (fd ∷ attr) l.count l.bytes
