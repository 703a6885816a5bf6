-- The names so far.
use Rattle.std.proofs.Common.{◌≡◌, take}
use Rattle.host_copy.proofs.worlds.folder_of.Given as goal

abbrev pub invariant-loop-name : goal.invariant-loop-name
invariant-loop-name l = l.route ≡ take l.name-index l.names
