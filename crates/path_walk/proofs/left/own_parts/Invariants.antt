use Rattle.std.proofs.Common.{◌≡◌, ◌++◌}
use Rattle.sn_text.specs.Paths.{parts_of}
use Rattle.path_walk.proofs.left.own_parts.Given as goal

abbrev pub invariant-loop-part : goal.invariant-loop-part
invariant-loop-part l = l.own.items ++ l.part-iterator ≡ parts_of l.path
