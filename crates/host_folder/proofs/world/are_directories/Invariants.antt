-- The path so far is the one before, with the names so far.
use Rattle.std.proofs.Common.{◌≡◌, ◌++◌, string_bytes, take}
use Rattle.host_folder.specs.Paths.{slashed}
use Rattle.host_folder.proofs.world.are_directories.Given as goal

abbrev pub invariant-loop-name : goal.invariant-loop-name
invariant-loop-name g l = string_bytes l.path ≡ string_bytes l.fn.path ++ slashed (take l.name-index l.names)
