use Rattle.std.proofs.Common.{◌≡◌, map, true}
use Rattle.std.specs.List.{list_all}
use Rattle.mount_file.specs.Values.{is_name}
use Rattle.mount_file.proofs.values.names_in.Given as goal

-- the pieces so far are names, and kept
abbrev pub invariant-loop-piece : goal.invariant-loop-piece
invariant-loop-piece l =
    (goal.iterator-loop-piece).can_next l.piece-iterator
    × (goal.iterator-loop-piece).is_finite l.piece-iterator
    × (l.names ≡ map (λ piece. piece.now) l.yielded)
    × (list_all is_name l.names ≡ true)
