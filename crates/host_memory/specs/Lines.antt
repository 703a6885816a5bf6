-- What a plan in memory is seen as.
use Rattle.std.specs.Prelude.{List, [], ◌∷◌}
use Rattle.host_memory.specs.declared.plan.Line.{Line}
use Rattle.host_memory.specs.declared.plan.Link.{Link}
use Rattle.host_memory.specs.declared.plan.Link.TheVariants.{End, More}

-- its lines, in order
-- profile
abbrev pub lines_of : Link → List Line
lines_of End = []
lines_of (More line rest) = line ∷ rest.value
