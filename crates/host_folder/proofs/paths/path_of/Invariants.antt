-- The path so far is the folder's with the names so far, and those are text.
use Rattle.std.proofs.Common.{◌≡◌, ◌++◌, string_bytes, take, All, IsUtf8}
use Rattle.host_folder.specs.Paths.{slashed}
use Rattle.host_folder.proofs.paths.path_of.Given as goal

abbrev pub invariant-loop-name : goal.invariant-loop-name
invariant-loop-name l = record {
  path : string_bytes l.path ≡ l.folder ++ slashed (take l.name-index l.name-items);
  text : All IsUtf8 (take l.name-index l.name-items);
}
