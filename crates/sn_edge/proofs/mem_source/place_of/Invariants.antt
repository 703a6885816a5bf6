use Rattle.std.proofs.Common.{◌≡◌, drop}
use Rattle.sn_edge.specs.Shelf.{content_at}
use Rattle.sn_edge.proofs.mem_source.place_of.Given as goal

abbrev pub invariant-loop-place : goal.invariant-loop-place
invariant-loop-place l = content_at (drop l.place l.files) l.name ≡ content_at l.files l.name
