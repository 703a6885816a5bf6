use Rattle.std.proofs.Common.{◌≡◌, ◌-◌, map, [], ◌∷◌}
use Rattle.lisafs_wire.specs.Fields.{Name}
use Rattle.lisafs_wire.specs.Grammar.{kind}
use Rattle.lisafs_wire.specs.Messages.{listed_group}
use Rattle.lisafs_wire.specs.Reading.{groups_at}
use Rattle.lisafs_wire.proofs.Loop.{with_front}
use Rattle.lisafs_wire.proofs.answers.listed_of.Given as goal

abbrev pub invariant-loop : goal.invariant-loop
invariant-loop l =
    with_front (map listed_group l.names) (groups_at (kind ∷ Name ∷ []) (l.count - l.counter) l.rest)
    ≡ groups_at (kind ∷ Name ∷ []) l.count l.bytes
